-- What a line of input means.
-- Assumes nothing.
use Rattle.std.specs.Prelude.{ℕ, suc, List, [], ◌∷◌, length, take, drop, ltb, eqb}
use Rattle.std.proofs.Math.Option.{Option, none, some}
use Rattle.model.specs.Map.{pick}
use Rattle.model.specs.Page.{Mode, plain, inclusive}
use Rattle.model.specs.Picture.{too_long}
use Rattle.line.specs.Text.{key_of, number_of}

pub data Command : Type 0 where
  insert : List ℕ → ℕ → Command
  get : List ℕ → Command
  delete : List ℕ → Command
  list : Mode → List ℕ → Command

-- A line: a command; malformed; or well formed with a key that is too long.
pub data Line : Type 0 where
  command : Command → Line
  bad : Line
  key : Line

-- The longest line, in bytes before its newline.
abbrev pub line_limit : ℕ
line_limit = 200

-- The place of the first space; the length if there is none.
unfoldable pub first_space : List ℕ → ℕ
first_space [] = 0
first_space (c ∷ w) = pick (eqb c 32) 0 (suc (first_space w))

-- A command with a key, once the line is known to be well formed.
abbrev pub fits : List ℕ → Command → Line
fits k c = pick (too_long k) key (command c)

-- What follows `g `, `d `, `p ` or `q `: a key and nothing more.
abbrev pub with_key : (List ℕ → Command) → Option (List ℕ) → Line
with_key f none = bad
with_key f (some k) = fits k (f k)

-- What follows `i `: a key, a space, a number.
abbrev pub with_both : Option (List ℕ) → Option ℕ → Line
with_both none n = bad
with_both (some k) none = bad
with_both (some k) (some v) = fits k (insert k v)

unfoldable pub insert_line : List ℕ → Line
insert_line w = with_both (key_of (take (first_space w) w)) (number_of (drop (suc (first_space w)) w))

-- What follows the first letter and a space. `i` 105, `g` 103, `d` 100, `p` 112, `q` 113.
unfoldable pub by_letter : ℕ → List ℕ → Line
by_letter c w =
    pick (eqb c 105) (insert_line w)
    (pick (eqb c 103) (with_key get (key_of w))
    (pick (eqb c 100) (with_key delete (key_of w))
    (pick (eqb c 112) (with_key (list plain) (key_of w))
    (pick (eqb c 113) (with_key (list inclusive) (key_of w)) bad))))

unfoldable pub short_line : List ℕ → Line
short_line [] = bad
short_line (c ∷ []) = bad
short_line (c ∷ s ∷ w) = pick (eqb s 32) (by_letter c w) bad

-- The line's bytes, without its newline.
unfoldable pub line_of : List ℕ → Line
line_of l = pick (ltb line_limit (length l)) bad (short_line l)
