use borrow.Author.Rules.{rules}
use native.Mathlib.Omega.{arith}
use Rattle.line.proofs.WriteLaws.{key_start, key_step, key_whole, key_dashed}
use Rattle.line.proofs.writing.put_key.Goals as goal

pub returns-then-is_empty : goal.returns-then-is_empty
returns-then-is_empty c = key_dashed c.args.key.now (grind arith) c.requires

pub loop-i-init : goal.loop-i-init
loop-i-init c = search (key_start, rules)

pub loop-i-preserved : goal.loop-i-preserved
loop-i-preserved c = search (key_step, rules)

pub returns : goal.returns
returns c = key_whole c.args.key.now (grind arith) (omega arith) c.loop-i.invariant
