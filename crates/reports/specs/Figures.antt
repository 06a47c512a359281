-- Worked examples: names, a point, changes and refusals as they are printed.
use Rattle.std.specs.Prelude.{◌≡◌, refl, pos, negsuc}
use mathlib.Core.List.{[], ◌∷◌, flatten}
use Rattle.text.specs.Numbers.{ascii, digits, decimal, signed, numbers}
use Rattle.received.specs.Mending.{change}
use Rattle.reports.specs.Reports.{name_line, sender_lines, object_lines, point_line, point_text, what_text, change_line, change_text, changes_text, refused_line, stopped_line}
use Rattle.reports.specs.Rooms.{point_with}

pub sender-printed : flatten (sender_lines (ascii "2026-10-30T00:00:01") (ascii "POLAR NETWORK"))
    ≡ ascii "CREATION_DATE 2026-10-30T00:00:01\nORIGINATOR POLAR NETWORK\n"
unfolding sender_lines name_line ascii flatten
sender-printed = refl

pub object-printed : flatten (object_lines (ascii "AURORA 2") (ascii "2019-008C") (ascii "EARTH") (ascii "TOD"))
    ≡ ascii "OBJECT_NAME AURORA 2\nOBJECT_ID 2019-008C\nCENTER_NAME EARTH\nREF_FRAME TOD\n"
unfolding object_lines name_line ascii flatten
object-printed = refl

pub point-printed : point_text (point_with 63928956000 (negsuc 143212817 ∷ pos 6683773669 ∷ negsuc 5300445619 ∷ negsuc 4916431778 ∷ pos 6435756183 ∷ pos 3583226056 ∷ []))
    ≡ ascii "63928956000 -143212818 6683773669 -5300445620 -4916431779 6435756183 3583226056\n"
unfolding point_text point_line numbers signed decimal digits ascii flatten
point-printed = refl

pub changes-printed : changes_text (change 12 2 ∷ change 13 3 ∷ change 17 1 ∷ []) ≡ ascii "12 START_TIME\n13 STOP_TIME\n17 dropped\n"
unfolding changes_text change_text change_line what_text decimal digits ascii flatten
changes-printed = refl

pub stopped-printed : flatten (stopped_line 17) ≡ ascii "refused 15 17\n"
unfolding stopped_line decimal digits ascii flatten
stopped-printed = refl

pub refused-printed : flatten (refused_line 16) ≡ ascii "refused 16\n"
unfolding refused_line decimal digits ascii flatten
refused-printed = refl
