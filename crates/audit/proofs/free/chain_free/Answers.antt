-- `audit::free::chain_free` meets its contract. The invariant: the rest of the chain from here is the whole from its first record. Assumes nothing.
use mathlib.Core.Path.{◌≡◌, ap, ◌∙◌}
use Rattle.audit_tree.proofs.Contracts.{chain_used, chain_next}
use borrow.Author.Rules.{rules}
use Rattle.audit.proofs.free.chain_free.Goals as goal

pub returns-then-not-is_free : goal.returns-then-not-is_free
returns-then-not-is_free g c =
    let e : g.R.Record.number c.numbered-record.result ≡ c.loop.at = ap g.R.Record.number c.numbered-record.ensures ∙ g.met.R.Record.numbers c.loop.at in
    search (chain_used, rules)

pub loop-preserved : goal.loop-preserved
loop-preserved g c =
    let e : g.R.Record.number c.numbered-record.result ≡ c.loop.at = ap g.R.Record.number c.numbered-record.ensures ∙ g.met.R.Record.numbers c.loop.at in
    let free = rw e at c.is_free.ensures in
    let next = rw e at c.next-at.ensures in
    search (chain_next, rules)
