-- The lines of a page's entries, from the page's bytes, whatever they are.
-- Assumes nothing.
use Rattle.std.specs.Prelude.{ℕ, zero, suc, ◌+◌, ◌≤◌, List, [], ◌++◌, ◌≡◌, length, get_or, take, drop, ltb}
use Rattle.model.specs.Map.{pick}
use Rattle.fields.specs.Number.{big}
use Rattle.line.specs.Answer.{entry_text}

-- 4 bytes, high byte first
abbrev pub value_at : List ℕ → ℕ → ℕ
value_at l at = big 4 l at

-- The key of get_or l 2 0 bytes stands at 3, the value 3 bytes after it.
unfoldable pub page_text : ℕ → List ℕ → List ℕ
page_text zero l = []
page_text (suc n) l = pick (ltb 64 (get_or l 2 0)) [] (entry_text (take (get_or l 2 0) (drop 3 l), value_at l (get_or l 2 0 + 6)) ++ page_text n (drop (get_or l 2 0 + 10) l))

-- Where the last of so many entries stands.
unfoldable pub last_at : ℕ → List ℕ → ℕ
last_at zero l = 0
last_at (suc zero) l = 0
last_at (suc (suc n)) l = pick (ltb 64 (get_or l 2 0)) 0 (get_or l 2 0 + 10 + last_at (suc n) (drop (get_or l 2 0 + 10) l))

-- The key of the entry at a place.
abbrev pub key_at : List ℕ → ℕ → List ℕ
key_at l at = pick (ltb 64 (get_or l (at + 2) 0)) [] (take (get_or l (at + 2) 0) (drop (at + 3) l))

-- A key that is kept stands at the start of its buffer.
pub record Kept (key before buffer : List ℕ) (n : ℕ) : Type 0 where
  pub is : take n buffer ≡ key
  pub size : length buffer ≡ length before
  pub fits : n ≤ 64
