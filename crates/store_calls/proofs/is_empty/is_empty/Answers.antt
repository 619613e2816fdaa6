-- `store_calls::is_empty::is_empty` meets its promise: by the header's count of leaves. Assumes nothing.
use mathlib.Core.Path.{refl}
use Rattle.index_spec.proofs.Contracts.{empty_good}
use Rattle.store_calls.proofs.is_empty.is_empty.Goals as goal

pub returns-clause-promise : goal.returns-clause-promise
returns-clause-promise c = empty_good _ _ _ _ c.read_head.ensures c.in_ok-h.was refl
