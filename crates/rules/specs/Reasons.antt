-- The paper's number of each reason why a call is refused. Definitions only.
use Rattle.std.specs.Prelude.{ℕ}
use Rattle.rules.specs.declared.Reason.{Reason}
use Rattle.rules.specs.declared.Reason.TheVariants.{Points, Length, Settings, NotANumber, TooLarge, OutOfRange, WrongState, LastCorrection, Full, NoCentre, BadMessage, NoRoom, Infinite, NoImage, Unreadable, Unmendable, OtherVersion}

abbrev pub number_of : Reason → ℕ
number_of Points = 1
number_of Length = 2
number_of Settings = 3
number_of NotANumber = 4
number_of TooLarge = 5
number_of OutOfRange = 6
number_of WrongState = 7
number_of LastCorrection = 8
number_of Full = 9
number_of NoCentre = 10
number_of BadMessage = 11
number_of NoRoom = 12
number_of Infinite = 13
number_of NoImage = 14
number_of Unreadable = 15
number_of Unmendable = 16
number_of OtherVersion = 17
