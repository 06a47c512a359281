-- `sentences::sentences::put_said` meets its contract: what is said with each number.
use mathlib.Core.Path.{ap}
use mathlib.Core.List.{flatten}
use native.Mathlib.Omega.{arith}
use borrow.Author.Rules.{rules}
use Rattle.text.specs.Numbers.{ascii}
use Rattle.text.proofs.Written.{last, retold}
use Rattle.sentences.specs.Sentences.{said}
use Rattle.sentences.proofs.Numbers.{as_said, another}
use Rattle.sentences.proofs.sentences.put_said.Goals as goal

pub returns-in-4 : goal.returns-in-4
unfolding said ascii
returns-in-4 c =
    let a = c.args in
    as_said a.s a.r c.in-4.is c.put_named.ensures

pub returns-in-13 : goal.returns-in-13
unfolding said ascii
returns-in-13 c =
    let a = c.args in
    as_said a.s a.r c.in-13.is c.put_named-in-13.ensures

pub returns-in-5 : goal.returns-in-5
unfolding said ascii
returns-in-5 c =
    let a = c.args in
    as_said a.s a.r c.in-5.is c.put_named-in-5.ensures

pub returns-in-6 : goal.returns-in-6
unfolding said ascii
returns-in-6 c =
    let a = c.args in
    as_said a.s a.r c.in-6.is c.put_named-in-6.ensures

pub returns-in-7 : goal.returns-in-7
unfolding said ascii
returns-in-7 c =
    let a = c.args in
    as_said a.s a.r c.in-7.is (last c.put_word.ensures)

pub returns-in-8 : goal.returns-in-8
unfolding said ascii
returns-in-8 c =
    let a = c.args in
    as_said a.s a.r c.in-8.is c.put_over.ensures

pub put_over-requires-in_default : goal.put_over-requires-in_default
put_over-requires-in_default c =
    let a = c.args in
    record { part_bound = c.requires.part_bound; room = rw (← (another a.s a.r a.number (search rules))) at c.requires.room }

pub returns-in_default : goal.returns-in_default
returns-in_default c =
    let a = c.args in
    retold (ap flatten (another a.s a.r a.number (search rules))) c.put_over-in_default.ensures

pub put_named-requires : goal.put_named-requires
unfolding said ascii
put_named-requires c = rw c.in-4.is at c.requires.room

pub put_named-requires-in-13 : goal.put_named-requires-in-13
unfolding said ascii
put_named-requires-in-13 c = rw c.in-13.is at c.requires.room

pub put_named-requires-in-5 : goal.put_named-requires-in-5
unfolding said ascii
put_named-requires-in-5 c = rw c.in-5.is at c.requires.room

pub put_named-requires-in-6 : goal.put_named-requires-in-6
unfolding said ascii
put_named-requires-in-6 c = rw c.in-6.is at c.requires.room

pub put_word-requires : goal.put_word-requires
unfolding said ascii
put_word-requires c = let room = rw c.in-7.is at c.requires.room in omega (arith, room.fits)

pub put_over-requires : goal.put_over-requires
unfolding said ascii
put_over-requires c = record { part_bound = c.requires.part_bound; room = rw c.in-8.is at c.requires.room }
