-- The calls on a store's whole content, nothing or a tree: what they do to the map.
-- Assumes nothing.
use Prim.Native.Nat.{ℕ}
use mathlib.Core.Path.{◌≡◌, refl, sym, ◌∙◌, ap}
use mathlib.Core.List.{List}
use mathlib.Core.Option.{Option, none, some}
use mathlib.Core.Logic.{◌≢◌}
use Rattle.model.specs.Key.{IsKey}
use Rattle.model.specs.Map.{lookup, put, del}
use Rattle.model.specs.Picture.{Tree, entries, Pictured, listing, closest, Picture}
use Rattle.model.proofs.KeyLaws.{key_same}
use Rattle.model.proofs.ClosestFound.{closest_is}
use Rattle.pictures.specs.Tree.{set_t, insert_at, new_for}
use Rattle.pictures.specs.Calls.{insert_root, get_root, remove_root}
use Rattle.pictures.proofs.Lookup.{get_lookup}
use Rattle.pictures.proofs.Insert.{insert_put}
use Rattle.pictures.proofs.Remove.{remove_del}

pub get_entries : (k : List ℕ) (o : Option Tree) → Pictured o → get_root k o ≡ lookup k (entries o)
get_entries k none h = refl
get_entries k (some t) h = get_lookup k t h

-- Insertion puts, and removal deletes.
pub insert_pictured : (a b : ℕ) (k : List ℕ) (v : ℕ) (o : Option Tree) → IsKey k → Pictured o → Pictured (insert_root a b k v o)
insert_pictured a b k v none i h = i
insert_pictured a b k v (some t) i h = (insert_put a b k v t i h).picture

pub insert_entries : (a b : ℕ) (k : List ℕ) (v : ℕ) (o : Option Tree) → IsKey k → Pictured o → entries (insert_root a b k v o) ≡ put k v (entries o)
insert_entries a b k v none i h = refl
insert_entries a b k v (some t) i h = (insert_put a b k v t i h).lists

pub remove_pictured : (k : List ℕ) (o : Option Tree) → Pictured o → Pictured (remove_root k o)
remove_pictured k none h = tt
remove_pictured k (some t) h = (remove_del k t h).picture

pub remove_entries : (k : List ℕ) (o : Option Tree) → Pictured o → entries (remove_root k o) ≡ del k (entries o)
remove_entries k none h = refl
remove_entries k (some t) h = (remove_del k t h).lists

-- A stored key's value is replaced: the tree of an overwrite.
pub overwrite_listing : (k : List ℕ) (v : ℕ) (t : Tree) → Picture t → IsKey k → lookup k (listing t) ≢ none → listing (set_t k v t) ≡ put k v (listing t)
overwrite_listing k v t h i d =
    ap listing (sym (key_same (closest_is k t h d) (set_t k v t) (insert_at (new_for 0 0 k v (closest k t).key) t))) ∙ insert_entries 0 0 k v (some t) i h
