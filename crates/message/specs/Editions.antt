-- The editions of the standard, by the version that a message of each says. Definitions only.
use Rattle.std.specs.Prelude.{ℕ, List}
use Rattle.text.specs.Numbers.{ascii}
use Rattle.message.specs.declared.Edition.{Edition}
use Rattle.message.specs.declared.Edition.TheVariants.{Two, Three}

abbrev pub version_of : Edition → List ℕ
version_of Two = ascii "2.0"
version_of Three = ascii "3.0"
