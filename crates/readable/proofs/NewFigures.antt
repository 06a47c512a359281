-- The texts of version 3.0 and of neither that are worked out give what is expected, shown by computing.
use mathlib.Core.Path.{refl}
use mathlib.Core.List.{flatten}
use Rattle.integers.specs.Lines.{All}
use Rattle.text.specs.Numbers.{ascii, decimal, digits, last_digits}
use Rattle.text.specs.Reading.{going_on, decimal_in, decimal_at, not_below, below}
use Rattle.calendar.specs.Calendar.{leap, lengths, days_of_month, sum_to, days_of_year, days_before_year, days_before_month, is_real, days_of, seconds_of}
use Rattle.calendar.specs.Text.{time_text, value_at, moment_in, same_text, time_in}
use Rattle.decimal.specs.Text.{digits_before, few_digits}
use Rattle.decimal.specs.Reading.{more_digits, after_whole, with_decimals, size_at, fixed_at}
use Rattle.message.specs.Form.{has_between, all_between, one_case, name_holds}
use Rattle.message.specs.Message.{entry}
use Rattle.message.specs.Refusals.{is_time}
use Rattle.received.specs.Lines.{in_front, lines_in}
use Rattle.received.specs.Slots.{rest_in, has_front, is_of, leading, behind, first_of, past_first, after, walk}
use Rattle.received.specs.Profile.{printable, is_remark, is_text}
use Rattle.received.specs.Versions.{up_to_newline, has_version, named_in, is_other, edition_in}
use Rattle.received.specs.Data.{field_by, field_at, field_start, value_in, first_ones, datum_in, points_in, kept_of}
use Rattle.received.specs.Reading.{line_at, rest_at, number_at, unless, all_read, read_by, read_lines, read_of, message_in}
use Rattle.received.specs.Answer.{answer_to}
use Rattle.received.specs.Mending.{drops_from, mend_by, mend_of}
use Rattle.received.specs.MendAnswer.{mended_to}
use Rattle.readable.specs.NewFigures.{versions, values, new_readings, new_messages, new_mendings}
use Rattle.readable.proofs.Bytes.{read-bytes, mend-bytes}

pub as-named : All versions
unfolding flatten ascii same_text in_front lines_in rest_in has_front is_of after walk up_to_newline has_version named_in is_other edition_in read_by read_lines read_of mend_by mend_of answer_to mended_to
as-named = (refl, (refl, (refl, (refl, (refl, (refl, (refl, (refl, (refl, (refl, (refl, (refl, (refl, (refl, (refl, (refl, (refl, (refl, (refl, (refl, (refl, (refl, (refl, (refl, (refl, (refl, (refl, (refl, (refl, (refl, (refl, (refl, (refl, (refl, (refl, (refl, (refl, (refl, tt))))))))))))))))))))))))))))))))))))))

pub as-valued : All values
unfolding ascii all_between printable is_text
as-valued = (refl, (refl, (refl, (refl, (refl, (refl, (refl, tt)))))))

pub new-found : All new_messages
unfolding ascii rest_in line_at rest_at message_in
new-found = (refl, tt)

pub new-read : All new_readings
unfolding flatten ascii decimal digits last_digits going_on decimal_in decimal_at not_below below leap lengths days_of_month sum_to days_of_year days_before_year days_before_month is_real days_of seconds_of time_text value_at moment_in same_text time_in digits_before few_digits more_digits after_whole with_decimals size_at fixed_at has_between all_between one_case name_holds is_time in_front lines_in rest_in has_front is_of leading behind first_of past_first after walk printable is_remark is_text field_by field_at field_start value_in first_ones datum_in points_in line_at rest_at number_at unless all_read
new-read = (read-bytes _ _ refl, (read-bytes _ _ refl, (read-bytes _ _ refl, (read-bytes _ _ refl, (read-bytes _ _ refl, (read-bytes _ _ refl, (read-bytes _ _ refl, (read-bytes _ _ refl, (read-bytes _ _ refl, (read-bytes _ _ refl, (read-bytes _ _ refl, (read-bytes _ _ refl, (read-bytes _ _ refl, (read-bytes _ _ refl, (read-bytes _ _ refl, (read-bytes _ _ refl, (read-bytes _ _ refl, (read-bytes _ _ refl, tt))))))))))))))))))

pub new-mended : All new_mendings
unfolding flatten ascii decimal digits last_digits going_on decimal_in decimal_at not_below below leap lengths days_of_month sum_to days_of_year days_before_year days_before_month is_real days_of seconds_of time_text value_at moment_in same_text time_in digits_before few_digits more_digits after_whole with_decimals size_at fixed_at has_between all_between one_case name_holds is_time in_front lines_in rest_in has_front is_of leading behind first_of past_first after walk printable is_remark is_text field_by field_at field_start value_in first_ones datum_in kept_of line_at rest_at number_at entry drops_from
new-mended = (mend-bytes _ _ refl, (mend-bytes _ _ refl, (mend-bytes _ _ refl, (mend-bytes _ _ refl, tt))))
