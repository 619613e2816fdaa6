-- Each case holds, by computing.
-- Assumes nothing.
use mathlib.Core.Path.{refl}
use Rattle.line.specs.Text.{digit, pairs, key_of, decimals, number_of, digit_text, pairs_text, key_text, digits_text, number_text}
use Rattle.line.specs.Line.{first_space, insert_line, by_letter, short_line, line_of}
use Rattle.line.specs.Answer.{word_of, entries_text, answer_command, answer_line}
use Rattle.line.specs.Run.{lines_from, answers}
use Rattle.line.specs.Cases.{cases, AllRun}
use Rattle.model.specs.Nibble.{nibble, critical}
use Rattle.model.specs.Key.{order}

pub cases_hold : AllRun cases
unfolding digit pairs key_of decimals number_of digit_text pairs_text key_text digits_text number_text first_space insert_line by_letter short_line line_of word_of entries_text answer_command answer_line lines_from answers nibble order critical
cases_hold = (refl, (refl, (refl, tt)))
