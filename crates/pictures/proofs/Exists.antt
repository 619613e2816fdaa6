-- Every map of keys has a picture, and `picture_of` gives it: with `unique`, the picture of a key set is well defined.
-- Assumes nothing.
use mathlib.Core.Path.{◌≡◌, refl, ◌∙◌, ap, sym, subst}
use mathlib.Core.List.{List, [], ◌∷◌}
use mathlib.Core.Option.{Option, none}
use Rattle.model.specs.Key.{IsKey}
use Rattle.model.specs.Map.{Entry, All, put, Rising}
use Rattle.model.specs.Picture.{Tree, entries, Pictured, picture_of, bare_root}
use Rattle.model.proofs.Less.{Sorted}
use Rattle.model.proofs.MapLaws.{put_first}
use Rattle.model.proofs.OrderedMap.{rising_sorted}
use Rattle.model.proofs.PictureIs.{picture_is}
use Rattle.model.proofs.Bare.{pictured_bare, entries_bare}
use Rattle.pictures.specs.Calls.{insert_root}
use Rattle.pictures.proofs.CallLaws.{insert_pictured, insert_entries}

abbrev pub build : List Entry → Option Tree
build [] = none
build (e ∷ m) = insert_root 0 0 e.0 e.1 (build m)

pub build_pictured : (m : List Entry) → All IsKey m → Pictured (build m)
build_pictured [] a = tt
build_pictured (e ∷ m) a = insert_pictured 0 0 e.0 e.1 (build m) a.0 (build_pictured m a.1)

pub build_entries : (m : List Entry) → All IsKey m → Sorted m → entries (build m) ≡ m
build_entries [] a s = refl
build_entries (e ∷ m) a s =
    insert_entries 0 0 e.0 e.1 (build m) a.0 (build_pictured m a.1)
    ∙ ap (put e.0 e.1) (build_entries m a.1 s.1)
    ∙ put_first e.0 e.1 m s.0

-- So document 01's picture of a map is a picture, and lists the map.
picture_of_lem : (m : List Entry) → All IsKey m → Rising m → picture_of m ≡ bare_root (build m)
picture_of_lem m a r = ap picture_of (sym (build_entries m a (rising_sorted m r))) ∙ picture_is (build m) (build_pictured m a)

pub picture_of_pictured : (m : List Entry) → All IsKey m → Rising m → Pictured (picture_of m)
picture_of_pictured m a r = subst Pictured (sym (picture_of_lem m a r)) (pictured_bare (build m) (build_pictured m a))

pub picture_of_entries : (m : List Entry) → All IsKey m → Rising m → entries (picture_of m) ≡ m
picture_of_entries m a r = ap entries (picture_of_lem m a r) ∙ entries_bare (build m) ∙ build_entries m a (rising_sorted m r)
