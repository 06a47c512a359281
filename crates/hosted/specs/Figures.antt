-- Calls from C worked out, word by word: the opening of H3 with tolerance 0, a prediction, a second one, a correction whose answer has no room, H5's correction,
-- and a withdrawal; and calls that 14 refuses. What the definitions give, row by row, and what is expected. Lists of calls have the latest first.
use Rattle.std.specs.Prelude.{ℕ, List, [], ◌∷◌, ◌++◌, pos, take, set, replicate}
use Rattle.std.specs.Float.{binary64}
use Rattle.std.specs.Float.Ieee.{of_bits}
use Rattle.integers.specs.Lines.{Line, line}
use Rattle.ticks.specs.declared.Sample.{Sample}
use Rattle.session.specs.Requests.{Request}
use Rattle.image.specs.Bytes.{in_bytes}
use Rattle.host.specs.Calls.{Left, untouched, host_request, host_open}
use Rattle.hosted.specs.Runs.{Asks, predicts, corrects, withdraws, Asked, on_host, image_after, Told, told_after}

-- ---- what is handed over

-- 12 and 24 as bits
abbrev asks : Request
asks = host_request 1 0 1048576 2 (record { x = pos 1000; y = pos 0; z = pos 0; vx = pos 10; vy = pos 0; vz = pos 0 }) (in_bytes (4622945017495814144 ∷ 0 ∷ 0 ∷ []))

abbrev a24 : Sample
a24 = record { x = of_bits binary64 4627448617123184640; y = of_bits binary64 0; z = of_bits binary64 0 }

-- slices that are not zero before a call
abbrev used : ℕ → List ℕ
used n = replicate n 255

abbrev asking : Asks → Asked
asking call = record { call = call; answer = used 200 }

abbrev corrected : List Asked
corrected = asking (corrects a24) ∷ record { call = corrects a24; answer = used 199 } ∷ asking predicts ∷ asking predicts ∷ []

-- ---- what they leave and tell

abbrev none : ℕ → List ℕ
none n = replicate n 0

abbrev table : List ℕ
table = 1 ∷ 96 ∷ 56 ∷ 2 ∷ 152 ∷ 192 ∷ 3 ∷ 344 ∷ 216 ∷ 4 ∷ 560 ∷ 96 ∷ []

-- the state and the count, and the estimate on x: its position and its velocity, whole
abbrev image : ℕ → ℕ → ℕ → ℕ → List ℕ
image state count position velocity =
    table
    -- state, p, tolerances, limit, accepted, corrections
    ++ (state ∷ 1 ∷ 0 ∷ 1048576 ∷ 2 ∷ 0 ∷ count ∷ [])
    -- S1 and S2 of x, the sample of x, the estimate
    ++ (16 ∷ 0 ∷ 1015 ∷ 0 ∷ [])
    ++ none 20
    ++ (12 ∷ [])
    ++ none 26
    ++ (position ∷ 0 ∷ velocity ∷ 0 ∷ [])
    ++ none 8

abbrev opened : List ℕ
opened = in_bytes (image 1 0 0 0)

abbrev told : ℕ → List ℕ → Told
told number answer = record { number = number; answer = answer }

abbrev refused : ℕ → Told
refused number = told number (none 200)

-- 1016 and 22
abbrev first : Told
first = told 0 (in_bytes (0 ∷ (1016 ∷ 0 ∷ 4652148046329544704 ∷ 22 ∷ 0 ∷ 4626885667169763328 ∷ []) ++ none 18))

-- again with 1017 and 28, and the changes 1 and 6
abbrev second : Told
second =
    told 0 (in_bytes (2 ∷ (1017 ∷ 0 ∷ 4652156842422566912 ∷ 28 ∷ 0 ∷ 4628574517030027264 ∷ [])
    ++ none 12
    ++ (1 ∷ 0 ∷ 4607182418800017408 ∷ 6 ∷ 0 ∷ 4618441417868443648 ∷ [])))

-- ---- the rows

-- bytes that are no image, or an answer without room
abbrev turned_down : Asks → List ℕ → List ℕ → Line
turned_down call bytes answer = line Left (on_host call bytes answer) (untouched bytes answer)

abbrev pub figures : List Line
figures =
    line Left (host_open (used 656) (used 200) asks) (record { number = 0; image = opened; answer = none 200 })
    ∷ line (List ℕ) (image_after opened corrected) (in_bytes (image 2 1 1017 28))
    ∷ line (List ℕ) (image_after opened (asking withdraws ∷ corrected)) opened
    ∷ line (List Told) (told_after opened (asking withdraws ∷ corrected)) (refused 0 ∷ second ∷ told 14 (used 199) ∷ refused 7 ∷ first ∷ [])
    -- another word for the state; a byte too few; and an open without room
    ∷ turned_down predicts (in_bytes (set (image 1 0 0 0) 12 4)) (used 200)
    ∷ turned_down (corrects a24) (take 655 opened) (used 200)
    ∷ turned_down withdraws opened (used 201)
    ∷ line Left (host_open (used 655) (used 200) asks) (untouched (used 655) (used 200))
    ∷ []
