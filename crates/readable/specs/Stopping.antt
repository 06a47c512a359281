-- Where the reader stops, by what the lines before it can still become. Definitions only.
use Rattle.std.specs.Prelude.{◌≡◌, ◌⊎◌, List, [], ◌++◌, ℕ, suc, ◌-◌, ◌≤◌, length, take, get_or}
use Rattle.message.specs.declared.Edition.{Edition}
use Rattle.message.specs.Message.{says, time_after}
use Rattle.received.specs.Lines.{lines_in}
use Rattle.received.specs.Data.{first_seconds, last_seconds}
use Rattle.received.specs.Messages.{head_of, Says, ButForTimes}
use Rattle.received.specs.Reading.{Stops, start_slot, stop_slot, number_at, read_of}

-- line n is the first that no lines behind it can mend; where there is no line n, the lines end too early
pub record StopsAt (e : Edition) (lines : List (List ℕ)) (n : ℕ) : Type 0 where
  pub counted : 1 ≤ n
  pub within : n ≤ suc (length lines)
  -- the lines before it can go on to lines that are readable but for the two times
  pub begins : (more : List (List ℕ)) × ButForTimes e (take (n - 1) lines ++ more)
  -- and with it they cannot
  pub settles : n ≤ length lines → (more : List (List ℕ)) → ¬ ButForTimes e (take n lines ++ more)

module _ {e : Edition} {lines : List (List ℕ)} (b : ButForTimes e lines) where
  abbrev pub first_time : List ℕ
  first_time = time_after (first_seconds b.message.points)

  abbrev pub last_time : List ℕ
  last_time = time_after (last_seconds b.message.points)

  -- the number of the line of a slot
  abbrev pub number_in : ℕ → ℕ
  number_in slot = number_at (head_of e b.message b.start b.stop) slot

-- a text that is readable but for the two times: they are tested last, in this order, each at its own line
pub record TimesLast (e : Edition) (text : List ℕ) (b : ButForTimes e (lines_in text)) : Type 0 where
  pub start_wrong : ¬ (b.start ≡ first_time b) → read_of e text ≡ Stops (number_in b start_slot)
  pub stop_wrong : b.start ≡ first_time b → ¬ (b.stop ≡ last_time b) → read_of e text ≡ Stops (number_in b stop_slot)
  pub both_right : b.start ≡ first_time b → b.stop ≡ last_time b → Says e text b.message
  -- so it stops at one of the two only for its value
  pub stops_by : (n : ℕ) → read_of e text ≡ Stops n
      → ((n ≡ number_in b start_slot) × (¬ (b.start ≡ first_time b))) ⊎ ((n ≡ number_in b stop_slot) × ((b.start ≡ first_time b) × (¬ (b.stop ≡ last_time b))))
  pub start_line : get_or (lines_in text) (number_in b start_slot - 1) [] ≡ says "START_TIME" b.start
  pub stop_line : get_or (lines_in text) (number_in b stop_slot - 1) [] ≡ says "STOP_TIME" b.stop
