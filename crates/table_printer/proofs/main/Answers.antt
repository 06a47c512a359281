-- `table_printer::main` is safe: the answer lies within the bytes that hold it.
use mathlib.Core.Path.{sym}
use lib.Seq.{length-take-le}
use Rattle.table_text.proofs.Written.{text-within}
use Rattle.table_printer.proofs.main.Goals as goal

pub slice_bounds-bytes-end : goal.slice_bounds-bytes-end
slice_bounds-bytes-end c = text-within c.answer-length.result _ c.answer-length.ensures

pub slice_bounds-write_all-end : goal.slice_bounds-write_all-end
slice_bounds-write_all-end c =
    sym (length-take-le c.answer-length.result.length c.answer-length.result.bytes (text-within c.answer-length.result _ c.answer-length.ensures))
