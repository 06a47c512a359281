-- Images written out by hand, word by word, and bytes that are no image: what the definitions give, row by row, and what is expected.
use Rattle.std.specs.Prelude.{ℕ, ◌-◌, ◌^◌, List, [], ◌∷◌, ◌++◌, ℤ, pos, negsuc, take, set, replicate}
use Rattle.integers.specs.Lines.{Line, line}
use Rattle.axis.specs.declared.Motion.{Motion}
use Rattle.axis.specs.Formulas.{places}
use Rattle.axis.specs.Estimates.{estimating}
use Rattle.session.specs.declared.Session.{Session}
use Rattle.session.specs.declared.WholePoint.{WholePoint}
use Rattle.session.specs.declared.State.TheVariants.{Awaiting}
use Rattle.session.specs.Requests.{exact_point}
use Rattle.session.specs.Moves.{became, opened_session, closed_session}
use Rattle.epoch_session.specs.Records.{starting_session}
use Rattle.image.specs.Bytes.{bytes_of, in_bytes}
use Rattle.image.specs.Layout.{signed_word}
use Rattle.image.specs.Standing.{image_of}
use Rattle.image.specs.Reading.{read_of}

-- ---- the sessions

abbrev zeros : List ℤ
zeros = replicate 9 (pos 0)

-- a negative number
abbrev minus : ℕ → ℤ
minus n = negsuc (n - 1)

-- H3: p 1, tolerances 1 and the widest, limit 2; on x position 1000, velocity 10 and sample 12
abbrev h3 : Session
h3 =
    let q : WholePoint = record { x = pos 1000; y = pos 0; z = pos 0; vx = pos 10; vy = pos 0; vz = pos 0 } in
    opened_session 1 (record { position = 1; velocity = 1048576 }) 2 (exact_point q) (places 1 (pos 12 ∷ [])) zeros zeros

-- p 9, with another number in every field: what was opened, with 70 points accepted, awaiting a second correction
abbrev opened : Session
opened =
    let q : WholePoint = record { x = pos 1000; y = minus 2000; z = pos 3000; vx = pos 10; vy = minus 20; vz = minus 30 } in
    opened_session 9 (record { position = 11; velocity = 13 }) 5 (exact_point q)
    (pos 101 ∷ pos 102 ∷ pos 104 ∷ pos 107 ∷ pos 111 ∷ pos 116 ∷ pos 122 ∷ pos 129 ∷ pos 137 ∷ [])
    (minus 201 ∷ minus 203 ∷ minus 208 ∷ minus 202 ∷ minus 207 ∷ minus 204 ∷ minus 206 ∷ minus 209 ∷ minus 205 ∷ [])
    (pos 301 ∷ minus 302 ∷ pos 303 ∷ minus 304 ∷ pos 305 ∷ minus 306 ∷ pos 307 ∷ minus 308 ∷ pos 309 ∷ [])

abbrev motion : ℤ → ℕ → ℤ → ℕ → Motion
motion w p v q = record { position = record { whole = w; part = p }; velocity = record { whole = v; part = q } }

abbrev waiting : Session
waiting =
    became opened Awaiting 70 1
    (estimating opened.x (motion (minus 41) 42 (pos 43) 44))
    (estimating opened.y (motion (pos 45) 46 (minus 47) 48))
    (estimating opened.z (motion (minus 49) 50 (minus 51) 52))

-- starting with p 3, after one later round
abbrev started : Session
started =
    let q : WholePoint = record { x = pos 61; y = minus 62; z = pos 63; vx = minus 64; vy = pos 65; vz = pos 66 } in
    starting_session 3 (record { position = 7; velocity = 8 }) 2 1 (exact_point q)
    (places 3 (pos 71 ∷ pos 72 ∷ pos 73 ∷ [])) (places 3 (pos 74 ∷ pos 75 ∷ minus 76 ∷ [])) (places 3 (pos 77 ∷ pos 78 ∷ pos 79 ∷ []))

-- ---- their words

-- the word of -n
abbrev less : ℕ → ℕ
less n = 2 ^ 64 - n

-- kind, offset and length of the four bodies
abbrev table : List ℕ
table = 1 ∷ 96 ∷ 56 ∷ 2 ∷ 152 ∷ 192 ∷ 3 ∷ 344 ∷ 216 ∷ 4 ∷ 560 ∷ 96 ∷ []

abbrev none : ℕ → List ℕ
none n = replicate n 0

abbrev h3_words : List ℕ
h3_words =
    table
    -- state, p, tolerances, limit, accepted, corrections
    ++ (1 ∷ 1 ∷ 1 ∷ 1048576 ∷ 2 ∷ 0 ∷ 0 ∷ [])
    -- S1 and S2 of x
    ++ (16 ∷ 0 ∷ 1015 ∷ 0 ∷ [])
    ++ none 20
    -- the sample of x
    ++ (12 ∷ [])
    ++ none 26
    ++ none 12

abbrev waiting_words : List ℕ
waiting_words =
    table
    ++ (2 ∷ 9 ∷ 11 ∷ 13 ∷ 5 ∷ 70 ∷ 1 ∷ [])
    -- S1, S2, the held position and the held velocity of x, of y and of z
    ++ (60 ∷ 73180800 ∷ 1052 ∷ 7318080 ∷ 2 ∷ 38984721 ∷ 21 ∷ 75652434 ∷ [])
    ++ (less 131 ∷ 87721744 ∷ less 2117 ∷ 138156256 ∷ less 7 ∷ 28097797 ∷ less 53 ∷ 133000010 ∷ [])
    ++ (1716 ∷ 83302912 ∷ 5060 ∷ 117030656 ∷ 361 ∷ 64375684 ∷ 1526 ∷ 138536904 ∷ [])
    -- x, y and z of each sample, the newest first
    ++ (101 ∷ less 201 ∷ 301 ∷ 102 ∷ less 203 ∷ less 302 ∷ 104 ∷ less 208 ∷ 303 ∷ [])
    ++ (107 ∷ less 202 ∷ less 304 ∷ 111 ∷ less 207 ∷ 305 ∷ 116 ∷ less 204 ∷ less 306 ∷ [])
    ++ (122 ∷ less 206 ∷ 307 ∷ 129 ∷ less 209 ∷ less 308 ∷ 137 ∷ less 205 ∷ 309 ∷ [])
    -- the estimate
    ++ (less 41 ∷ 42 ∷ 43 ∷ 44 ∷ 45 ∷ 46 ∷ less 47 ∷ 48 ∷ less 49 ∷ 50 ∷ less 51 ∷ 52 ∷ [])

abbrev started_words : List ℕ
started_words =
    table
    ++ (3 ∷ 3 ∷ 7 ∷ 8 ∷ 2 ∷ 0 ∷ 1 ∷ [])
    ++ none 24
    ++ (71 ∷ 74 ∷ 77 ∷ 72 ∷ 75 ∷ 78 ∷ 73 ∷ less 76 ∷ 79 ∷ [])
    ++ none 18
    -- the epoch
    ++ (61 ∷ 0 ∷ less 64 ∷ 0 ∷ less 62 ∷ 0 ∷ 65 ∷ 0 ∷ 63 ∷ 0 ∷ 66 ∷ 0 ∷ [])

-- ---- the rows

-- the number that a read answers
abbrev number : List ℕ → ℕ
number bytes = (read_of bytes).number

-- H3's image with another word at a place is refused
abbrev changed : ℕ → ℕ → Line
changed i w = line ℕ (number (in_bytes (set h3_words i w))) 14

abbrev pub figures : List Line
figures =
    -- two's complement, and the lowest byte first
    line ℕ (signed_word (minus 1)) 18446744073709551615
    ∷ line (List ℕ) (bytes_of 8 (signed_word (minus 3))) (253 ∷ 255 ∷ 255 ∷ 255 ∷ 255 ∷ 255 ∷ 255 ∷ 255 ∷ [])
    ∷ line (List ℕ) (bytes_of 8 72623859790382856) (8 ∷ 7 ∷ 6 ∷ 5 ∷ 4 ∷ 3 ∷ 2 ∷ 1 ∷ [])
    -- images
    ∷ line (List ℕ) (image_of h3) (in_bytes h3_words)
    ∷ line (List ℕ) (image_of waiting) (in_bytes waiting_words)
    ∷ line (List ℕ) (image_of started) (in_bytes started_words)
    ∷ line (List ℕ) (image_of closed_session) (in_bytes (table ++ none 70))
    -- and read back
    ∷ line ℕ (number (in_bytes h3_words)) 0
    ∷ line Session (read_of (in_bytes h3_words)).session h3
    -- no image: another kind, an unknown state, closed and not zero, a remainder of more than 32 bits, an untrue held sum, an empty place that is not zero
    ∷ changed 0 5
    ∷ changed 12 4
    ∷ changed 12 0
    ∷ changed 20 4294967296
    ∷ changed 23 1
    ∷ changed 46 1
    -- a byte too few, one too many, and none at all
    ∷ line ℕ (number (take 655 (in_bytes h3_words))) 14
    ∷ line ℕ (number (in_bytes h3_words ++ 0 ∷ [])) 14
    ∷ line ℕ (number []) 14
    ∷ []
