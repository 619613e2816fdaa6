-- What a page takes of entries that are met one after the other: the first of them, as many as are wanted, in the bytes of document 01. Assumes nothing.
use Prim.Native.Nat.{ℕ, zero, suc, ◌+◌, ◌-◌}
use mathlib.Core.Path.{◌≡◌, refl, sym, ap, ◌∙◌}
use mathlib.Core.Bool.{Bool, true, false, cond}
use mathlib.Core.List.{List, [], ◌∷◌}
use mathlib.Core.Option.{some}
use native.Mathlib.Omega.{arith}
use lib.Dec.{leb, leb-suc-suc}
use lib.ListN.{length, take, length-append}
use borrow.Author.Tests.{le-leb, lt-leb, ne_eqb}
use Rattle.model.specs.Map.{Entry}
use Rattle.model.specs.Entry.{entry_bytes, entries_bytes}
use Rattle.fields.specs.Part.{splice}
use Rattle.fields.proofs.PartLaws.{splice_append, splice_nil}
use Rattle.walk.specs.Walk.{Sheet, put, puts}
use Rattle.walk.specs.declared.walk.Stop.TheVariants.{Going, Further}
use Rattle.walk.proofs.HeldLaws.{given}
use Rattle.walk.proofs.SheetLaws.{puts_stopped}

abbrev going : List ℕ → ℕ → ℕ → Sheet
going out at left = record { out = out; at = at; left = left; stop = Going }

-- more entries than are wanted
abbrev full : List ℕ → ℕ → Sheet
full out at = record { out = out; at = at; left = 0; stop = Further }

-- by how many there are
abbrev taken : (out : List ℕ) (at left : ℕ) → List Entry → Sheet
taken out at left es =
    cond (leb (length es) left)
    (going (splice out at (entries_bytes es)) (at + length (entries_bytes es)) (left - length es))
    (full (splice out at (entries_bytes (take left es))) (at + length (entries_bytes (take left es))))

put_going : (e : Entry) (out : List ℕ) (at left : ℕ) → put (some e) (going out at (suc left)) ≡ going (splice out at (entry_bytes e)) (at + length (entry_bytes e)) left
put_going e out at left = let z : suc left - 1 ≡ left = omega arith in rw (ne_eqb (suc left) 0 (λ y. omega arith), z)

put_full : (e : Entry) (out : List ℕ) (at : ℕ) → put (some e) (going out at 0) ≡ full out at
put_full e out at = refl

-- one entry before the others
written_before : (e : Entry) (es : List Entry) (out : List ℕ) (at : ℕ) → splice (splice out at (entry_bytes e)) (at + length (entry_bytes e)) (entries_bytes es) ≡ splice out at (entries_bytes (e ∷ es))
written_before e es out at = splice_append out at (entry_bytes e) (entries_bytes es)

size_before : (e : Entry) (es : List Entry) (at : ℕ) → at + length (entry_bytes e) + length (entries_bytes es) ≡ at + length (entries_bytes (e ∷ es))
size_before e es at = let l = length-append (entry_bytes e) (entries_bytes es) in omega (arith, l)

shift : (e : Entry) (es : List Entry) (out : List ℕ) (at left : ℕ) → taken (splice out at (entry_bytes e)) (at + length (entry_bytes e)) left es ≡ taken out at (suc left) (e ∷ es)
shift e es out at left = go (leb (length es) left) ∙ ap (λ (b : Bool). cond b whole part) (sym (leb-suc-suc (length es) left))
  where
    whole : Sheet
    whole = going (splice out at (entries_bytes (e ∷ es))) (at + length (entries_bytes (e ∷ es))) (suc left - suc (length es))

    part : Sheet
    part = full (splice out at (entries_bytes (e ∷ take left es))) (at + length (entries_bytes (e ∷ take left es)))

    go : (b : Bool)
        → cond b (going (splice (splice out at (entry_bytes e)) (at + length (entry_bytes e)) (entries_bytes es)) (at + length (entry_bytes e) + length (entries_bytes es)) (left - length es))
        (full (splice (splice out at (entry_bytes e)) (at + length (entry_bytes e)) (entries_bytes (take left es))) (at + length (entry_bytes e) + length (entries_bytes (take left es))))
        ≡ cond b whole part
    go true = let z : suc left - suc (length es) ≡ left - length es = omega arith in rw (written_before e es out at, size_before e es at, z)
    go false = rw (written_before e (take left es) out at, size_before e (take left es) at)

pub take_given : (es : List Entry) (out : List ℕ) (at left : ℕ) → puts (given es) (going out at left) ≡ taken out at left es
unfolding puts
take_given [] out at left =
    let z : at + 0 ≡ at = omega arith in
    let y : left - 0 ≡ left = omega arith in
    rw (le-leb 0 left (omega arith), splice_nil out at, z, y)
take_given (e ∷ es) out at zero =
    let z : at + 0 ≡ at = omega arith in
    ap (puts (given es)) (put_full e out at) ∙ puts_stopped (given es) (full out at) refl ∙ sym (rw (lt-leb (suc (length es)) 0 (omega arith), splice_nil out at, z))
take_given (e ∷ es) out at (suc left) =
    ap (puts (given es)) (put_going e out at left) ∙ take_given es (splice out at (entry_bytes e)) (at + length (entry_bytes e)) left ∙ shift e es out at left
