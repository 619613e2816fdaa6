use Rattle.std.proofs.Common.{◌≡◌, ℕ, rules, tests}
use lib.Dec.{eqb}
use Rattle.std.specs.List.{position}
use Rattle.std.proofs.lemmas.Iterator.{YieldsList-from_slice}
use Rattle.std.proofs.lemmas.Iterator.Search.{position_from_yields_List}
use Rattle.line.proofs.ReadLaws.{first_found}
use Rattle.line.proofs.reading.first_space.Goals as goal

pub returns : goal.returns
returns c =
    let e : c.position.result ≡ position (λ (x : ℕ). eqb x 32) c.args.s.now = position_from_yields_List (λ (x : ℕ). eqb x 32) _ _ c.position.result c.position.ensures.ran (YieldsList-from_slice _ c.iter.ensures.rest) (λ x b q k. search (rules, tests)) in
    first_found c.args.s.now e
