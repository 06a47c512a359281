-- `message::writer::put_version` meets its contract: the line of each edition.
use mathlib.Core.Path.{sym, ap}
use native.Mathlib.Omega.{arith}
use mathlib.Core.List.{flatten}
use lib.ListN.{length}
use Rattle.text.specs.Numbers.{ascii}
use Rattle.text.proofs.Written.{retold}
use Rattle.message.specs.Editions.{version_of}
use Rattle.message.specs.Message.{entry, says}
use Rattle.message.proofs.writer.put_version.Goals as goal

pub put_word-requires : goal.put_word-requires
unfolding entry flatten ascii
put_word-requires c =
    omega (arith, c.requires, ap (λ e. length (says "CCSDS_OEM_VERS" (version_of e))) c.in-Two.is)

pub put_word-requires-in-Three : goal.put_word-requires-in-Three
unfolding entry flatten ascii
put_word-requires-in-Three c =
    omega (arith, c.requires, ap (λ e. length (says "CCSDS_OEM_VERS" (version_of e))) c.in-Three.is)

pub returns-in-Two : goal.returns-in-Two
unfolding entry flatten ascii
returns-in-Two c = retold (ap (λ e. says "CCSDS_OEM_VERS" (version_of e)) (sym c.in-Two.is)) c.put_word.ensures

pub returns-in-Three : goal.returns-in-Three
unfolding entry flatten ascii
returns-in-Three c = retold (ap (λ e. says "CCSDS_OEM_VERS" (version_of e)) (sym c.in-Three.is)) c.put_word-in-Three.ensures
