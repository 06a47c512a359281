-- A start of 9 points: what it is given, what every round shows, and the record that it leaves. `peer/worked` has the numbers in fractions.
use Rattle.std.specs.Prelude.{ℕ, List, [], ◌∷◌, pos, Float, replicate}
use Rattle.integers.specs.Lines.{Line, line}
use Rattle.axis.specs.declared.Motion.{Motion}
use Rattle.session.specs.declared.Point.{Point}
use Rattle.session.specs.declared.Session.{Session}
use Rattle.session.specs.declared.State.TheVariants.{Settled, Starting}
use Rattle.session.specs.Requests.{Request, request}
use Rattle.epoch_session.specs.declared.Round.{Round}
use Rattle.worked.specs.Shown.{minus, value, motion, none, point, nothing, whole, floats, tolerances, axis, filled, round}
use Rattle.worked.specs.Shown.{Shown, shows, starts, shown, refine}

-- six values and all floats are different
abbrev pub epoch : Request
epoch =
    request 9 (tolerances 5 6) 7 (whole (minus 7005) (pos 8006) (pos 9007) (pos 64) (minus 75) (pos 86))
    (floats
    (pos 102 ∷ minus 203 ∷ pos 301
    ∷ pos 104 ∷ minus 198 ∷ pos 306
    ∷ pos 108 ∷ minus 194 ∷ pos 312
    ∷ pos 112 ∷ minus 189 ∷ pos 314
    ∷ pos 117 ∷ minus 183 ∷ pos 321
    ∷ pos 123 ∷ minus 178 ∷ pos 325
    ∷ pos 128 ∷ minus 171 ∷ pos 332
    ∷ pos 132 ∷ minus 165 ∷ pos 338
    ∷ pos 137 ∷ minus 162 ∷ pos 342
    ∷ []))

-- between rounds: the samples of the last one, and the epoch in the place of the estimate
abbrev pub between : ℕ → Round → Session
between rounds held =
    filled Starting 9 (tolerances 5 6) 7 0 rounds
    (axis (value (pos 0) 0) (value (pos 0) 0) none held.x.samples 0 (motion (minus 7005) 0 (pos 64) 0))
    (axis (value (pos 0) 0) (value (pos 0) 0) none held.y.samples 0 (motion (pos 8006) 0 (minus 75) 0))
    (axis (value (pos 0) 0) (value (pos 0) 0) none held.z.samples 0 (motion (pos 9007) 0 (pos 86) 0))

-- at the newest point
abbrev pub opens : Round → Session
opens held =
    filled Settled 9 (tolerances 5 6) 7 0 0 held.x held.y held.z

-- of each axis S1 and S2 at the newest point, as the epoch fixes them, what its older samples give, and its samples
abbrev pub first : Round
first =
    round 9
    (axis (value (pos 642) 156594658) (value (minus 5123) 25471039) (motion (pos 3) 30529934 (pos 29) 158047824)
    (pos 137 ∷ pos 132 ∷ pos 128 ∷ pos 123 ∷ pos 117 ∷ pos 112 ∷ pos 108 ∷ pos 104 ∷ pos 102 ∷ []) 0 none)
    (axis (value (minus 843) 150181966) (value (pos 5473) 150719103) (motion (minus 4) 94629306 (minus 34) 52621140)
    (minus 162 ∷ minus 165 ∷ minus 171 ∷ minus 178 ∷ minus 183 ∷ minus 189 ∷ minus 194 ∷ minus 198 ∷ minus 203 ∷ []) 0 none)
    (axis (value (pos 1583) 158591950) (value (pos 13529) 30235799) (motion (pos 8) 20677548 (pos 75) 76648)
    (pos 342 ∷ pos 338 ∷ pos 332 ∷ pos 325 ∷ pos 321 ∷ pos 314 ∷ pos 312 ∷ pos 306 ∷ pos 301 ∷ []) 0 none)

-- the points, the oldest first
abbrev pub first_track : List Point
first_track =
    point (motion (minus 6375) 129626112 (minus 370) 158405632) (motion (pos 6783) 60318720 (pos 699) 109677568)
    (motion (pos 11172) 45360128 (minus 1153) 64520192)
    ∷ point (motion (minus 6693) 155328030 (minus 267) 107101764) (motion (pos 7381) 151963614 (pos 498) 72096156)
    (motion (pos 10167) 142169742 (minus 855) 78482844)
    ∷ point (motion (minus 6906) 47327104 (minus 161) 103680896) (motion (pos 7782) 28961152 (pos 302) 103393664)
    (motion (pos 9468) 37099392 (minus 544) 16736896)
    ∷ point (motion (minus 7012) 96319014 (minus 51) 100023748) (motion (pos 7988) 87097494 (pos 110) 146532892)
    (motion (pos 9080) 58256198 (minus 232) 75600668)
    ∷ point (motion (minus 7005) 0 (pos 64) 0) (motion (pos 8006) 0 (minus 75) 0) (motion (pos 9007) 0 (pos 86) 0)
    ∷ point (motion (minus 6882) 78533422 (pos 183) 158206532) (motion (pos 7840) 53688910 (minus 256) 78663068)
    (motion (pos 9254) 45021438 (pos 409) 32379292)
    ∷ point (motion (minus 6636) 142243200 (pos 309) 102408064) (motion (pos 7496) 138678144 (minus 431) 118915456)
    (motion (pos 9826) 136982912 (pos 737) 18786944)
    ∷ point (motion (minus 6261) 29825334 (pos 439) 96723396) (motion (pos 6982) 58665222 (minus 598) 45979164)
    (motion (pos 10731) 78980022 (pos 1073) 38451996)
    ∷ point (motion (minus 5755) 100655104 (pos 574) 23733248) (motion (pos 6302) 38139904 (minus 763) 116052992)
    (motion (pos 11972) 144933888 (pos 1409) 95315968)
    ∷ replicate 0 nothing

abbrev pub second_floats : List Float
second_floats =
    floats
    (pos 105 ∷ minus 206 ∷ pos 304
    ∷ pos 106 ∷ minus 201 ∷ pos 309
    ∷ pos 110 ∷ minus 197 ∷ pos 315
    ∷ pos 115 ∷ minus 187 ∷ pos 316
    ∷ pos 119 ∷ minus 184 ∷ pos 323
    ∷ pos 126 ∷ minus 177 ∷ pos 328
    ∷ pos 129 ∷ minus 174 ∷ pos 335
    ∷ pos 135 ∷ minus 168 ∷ pos 336
    ∷ pos 141 ∷ minus 159 ∷ pos 345
    ∷ [])

abbrev pub second : Round
second =
    round 9
    (axis (value (pos 655) 451484) (value (minus 5093) 19339336) (motion (pos 2) 88095478 (pos 27) 151783192)
    (pos 141 ∷ pos 135 ∷ pos 129 ∷ pos 126 ∷ pos 119 ∷ pos 115 ∷ pos 110 ∷ pos 106 ∷ pos 105 ∷ []) 0 none)
    (axis (value (minus 845) 58896926) (value (pos 5463) 34226885) (motion (minus 5) 153864903 (minus 36) 98190466)
    (minus 159 ∷ minus 168 ∷ minus 174 ∷ minus 177 ∷ minus 184 ∷ minus 187 ∷ minus 197 ∷ minus 201 ∷ minus 206 ∷ []) 0 none)
    (axis (value (pos 1592) 7137966) (value (pos 13554) 45461945) (motion (pos 9) 28533543 (pos 80) 5834026)
    (pos 345 ∷ pos 336 ∷ pos 335 ∷ pos 328 ∷ pos 323 ∷ pos 316 ∷ pos 315 ∷ pos 309 ∷ pos 304 ∷ []) 0 none)

abbrev pub second_track : List Point
second_track =
    point (motion (minus 6355) 60938240 (minus 381) 65590272) (motion (pos 6780) 33296384 (pos 698) 136587264)
    (motion (pos 11191) 9033728 (minus 1163) 66795520)
    ∷ point (motion (minus 6682) 133878096 (minus 273) 34592184) (motion (pos 7381) 48497130 (pos 502) 154524348)
    (motion (pos 10177) 134083026 (minus 863) 146854620)
    ∷ point (motion (minus 6901) 44881408 (minus 166) 63672576) (motion (pos 7783) 35102848 (pos 301) 104556672)
    (motion (pos 9472) 35260544 (minus 549) 119419520)
    ∷ point (motion (minus 7011) 110872256 (minus 53) 41333688) (motion (pos 7988) 73776098 (pos 110) 83886396)
    (motion (pos 9081) 49979402 (minus 234) 92189020)
    ∷ point (motion (minus 7005) 0 (pos 64) 0) (motion (pos 8006) 0 (minus 75) 0) (motion (pos 9007) 0 (pos 86) 0)
    ∷ point (motion (minus 6881) 101450800 (pos 186) 74770872) (motion (pos 7840) 2164954 (minus 256) 37029564)
    (motion (pos 9255) 67603778 (pos 411) 104896220)
    ∷ point (motion (minus 6631) 138338816 (pos 314) 76310784) (motion (pos 7496) 99989120 (minus 431) 77624448)
    (motion (pos 9832) 11893376 (pos 742) 132373120)
    ∷ point (motion (minus 6251) 39888288 (pos 445) 35048376) (motion (pos 6979) 46722258 (minus 604) 116090172)
    (motion (pos 10743) 51619194 (pos 1079) 144003420)
    ∷ point (motion (minus 5736) 105757696 (pos 587) 40178688) (motion (pos 6295) 120828928 (minus 762) 106039296)
    (motion (pos 11989) 128049152 (pos 1413) 99461120)
    ∷ replicate 0 nothing

abbrev pub third_floats : List Float
third_floats =
    floats
    (pos 106 ∷ minus 205 ∷ pos 303
    ∷ pos 105 ∷ minus 202 ∷ pos 310
    ∷ pos 111 ∷ minus 196 ∷ pos 314
    ∷ pos 114 ∷ minus 188 ∷ pos 317
    ∷ pos 120 ∷ minus 183 ∷ pos 322
    ∷ pos 125 ∷ minus 178 ∷ pos 329
    ∷ pos 130 ∷ minus 173 ∷ pos 334
    ∷ pos 134 ∷ minus 169 ∷ pos 337
    ∷ pos 140 ∷ minus 160 ∷ pos 346
    ∷ [])

abbrev pub third : Round
third =
    round 9
    (axis (value (pos 653) 80394952) (value (minus 5095) 81068666) (motion (pos 3) 86505441 (pos 31) 128733286)
    (pos 140 ∷ pos 134 ∷ pos 130 ∷ pos 125 ∷ pos 120 ∷ pos 114 ∷ pos 111 ∷ pos 105 ∷ pos 106 ∷ []) 0 none)
    (axis (value (minus 847) 138840394) (value (pos 5461) 95956215) (motion (minus 4) 152274866 (minus 32) 75140560)
    (minus 160 ∷ minus 169 ∷ minus 173 ∷ minus 178 ∷ minus 183 ∷ minus 188 ∷ minus 196 ∷ minus 202 ∷ minus 205 ∷ []) 0 none)
    (axis (value (pos 1593) 86861698) (value (pos 13555) 143399815) (motion (pos 8) 30123580 (pos 76) 28883932)
    (pos 346 ∷ pos 337 ∷ pos 334 ∷ pos 329 ∷ pos 322 ∷ pos 317 ∷ pos 314 ∷ pos 310 ∷ pos 303 ∷ []) 0 none)

abbrev pub third_track : List Point
third_track =
    point (motion (minus 6356) 21773312 (minus 376) 102569984) (motion (pos 6778) 153798656 (pos 704) 13899776)
    (motion (pos 11192) 48198656 (minus 1168) 29815808)
    ∷ point (motion (minus 6681) 46328436 (minus 274) 2323728) (motion (pos 7381) 120614670 (pos 501) 122255892)
    (motion (pos 10177) 61965486 (minus 861) 19455876)
    ∷ point (motion (minus 6901) 38176512 (minus 166) 136440832) (motion (pos 7783) 28397952 (pos 302) 17657728)
    (motion (pos 9472) 41965440 (minus 549) 46651264)
    ∷ point (motion (minus 7011) 154416020 (minus 53) 13427216) (motion (pos 7988) 117319862 (pos 110) 55979924)
    (motion (pos 9081) 6435638 (minus 234) 120095492)
    ∷ point (motion (minus 7005) 0 (pos 64) 0) (motion (pos 8006) 0 (minus 75) 0) (motion (pos 9007) 0 (pos 86) 0)
    ∷ point (motion (minus 6881) 145239732 (pos 186) 103181584) (motion (pos 7840) 45953886 (minus 256) 65440276)
    (motion (pos 9255) 23814846 (pos 411) 76485508)
    ∷ point (motion (minus 6631) 131960576 (pos 314) 3120128) (motion (pos 7496) 93610880 (minus 431) 4433792) (motion (pos 9832) 18271616 (pos 743) 45896576)
    ∷ point (motion (minus 6251) 113417172 (pos 446) 70524432) (motion (pos 6979) 120251142 (minus 603) 151566228)
    (motion (pos 10742) 137757510 (pos 1078) 108527364)
    ∷ point (motion (minus 5737) 47308800 (pos 581) 68924416) (motion (pos 6294) 62380032 (minus 768) 134785024)
    (motion (pos 11991) 26830848 (pos 1419) 70715392)
    ∷ replicate 0 nothing

-- the largest change of each kind from the first round to the second
abbrev pub moved : Motion
moved =
    motion (pos 19) 90979328 (pos 13) 16445440

abbrev pub rows : List Line
rows =
    line Shown (starts epoch) (shows 0 2 first_track none (between 0 first))
    ∷ line Shown (shown (between 0 first) (refine second_floats)) (shows 0 2 second_track moved (between 1 second))
    ∷ line Shown (shown (between 1 second) (refine third_floats)) (shows 0 3 third_track none (opens third))
    ∷ []
