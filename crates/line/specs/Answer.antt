-- What the program answers to a line, and the map after it.
-- Assumes nothing.
use Rattle.std.specs.Prelude.{ℕ, List, [], ◌∷◌, ◌++◌, eqb}
use Rattle.model.specs.Map.{Entry, pick}
use Rattle.model.specs.Page.{under}
use Rattle.promises.specs.Meaning.{Meaning, Reply}
use Rattle.promises.specs.Says.{insert_says, get_says, remove_says}
use Rattle.line.specs.declared.writing.Answer.{Answer}
use Rattle.line.specs.declared.writing.Answer.TheVariants.{New, Replaced, Height, Full, Value, Absent, Removed, End, Bad, Key}
use Rattle.line.specs.Text.{key_text, number_text}
use Rattle.line.specs.Line.{Command, insert, get, delete, list, Line, command, bad, key}

-- The words, as bytes: `new` `replaced` `height` `full`, a number, `absent` `removed` `end` `bad` `key`.
unfoldable pub word_of : Answer → List ℕ
word_of New = 110 ∷ 101 ∷ 119 ∷ []
word_of Replaced = 114 ∷ 101 ∷ 112 ∷ 108 ∷ 97 ∷ 99 ∷ 101 ∷ 100 ∷ []
word_of Height = 104 ∷ 101 ∷ 105 ∷ 103 ∷ 104 ∷ 116 ∷ []
word_of Full = 102 ∷ 117 ∷ 108 ∷ 108 ∷ []
word_of (Value n) = number_text n
word_of Absent = 97 ∷ 98 ∷ 115 ∷ 101 ∷ 110 ∷ 116 ∷ []
word_of Removed = 114 ∷ 101 ∷ 109 ∷ 111 ∷ 118 ∷ 101 ∷ 100 ∷ []
word_of End = 101 ∷ 110 ∷ 100 ∷ []
word_of Bad = 98 ∷ 97 ∷ 100 ∷ []
word_of Key = 107 ∷ 101 ∷ 121 ∷ []

-- The answer's line, with its newline.
abbrev pub answer_text : Answer → List ℕ
answer_text a = word_of a ++ (10 ∷ [])

-- A listing's line: the key, a space, the value, a newline.
abbrev pub entry_text : Entry → List ℕ
entry_text e = key_text e.0 ++ (32 ∷ (number_text e.1 ++ (10 ∷ [])))

unfoldable pub entries_text : List Entry → List ℕ
entries_text [] = []
entries_text (e ∷ m) = entry_text e ++ entries_text m

-- The answer by the call's number (document 01's table). 11 is KEY; 10, STORE, is not answered on an accepted store.
abbrev pub insert_answer : ℕ → Answer
insert_answer n = pick (eqb n 0) New (pick (eqb n 1) Replaced (pick (eqb n 12) Height (pick (eqb n 13) Full Key)))

abbrev pub get_answer : Reply → Answer
get_answer r = pick (eqb r.answer 0) (Value r.value) (pick (eqb r.answer 14) Absent Key)

abbrev pub remove_answer : ℕ → Answer
remove_answer n = pick (eqb n 0) Removed (pick (eqb n 14) Absent Key)

-- What is written, and the store's meaning after it.
pub record Said : Type 0 where
  pub bytes : List ℕ
  pub after : Meaning

abbrev pub said : Answer → Meaning → Said
said a m = record { bytes = answer_text a; after = m }

unfoldable pub answer_command : Command → Meaning → Said
answer_command (insert k v) m = let s = insert_says k v m in said (insert_answer s.reply.answer) s.after
answer_command (get k) m = said (get_answer (get_says k m)) m
answer_command (delete k) m = let s = remove_says k m in said (remove_answer s.reply.answer) s.after
answer_command (list mode k) m = record { bytes = entries_text (under mode k m.map) ++ answer_text End; after = m }

unfoldable pub answer_line : Line → Meaning → Said
answer_line (command c) m = answer_command c m
answer_line bad m = said Bad m
answer_line key m = said Key m
