-- `audit::check` refuses no accepted store: the check over bytes says yes to each (`Theorem`). Assumes nothing.
use mathlib.Core.Path.{sym, ◌∙◌}
use mathlib.Core.Bool.{true≢false}
use Rattle.audit.proofs.Theorem.{accepted_accepts}
use Rattle.audit.proofs.check.Goals as goal

pub returns-else-accepts-clause-complete : goal.returns-else-accepts-clause-complete
returns-else-accepts-clause-complete c = λ o a. absurd (true≢false (sym (accepted_accepts _ o a) ∙ sym c.accepts.ensures ∙ c.if-accepts.false))
