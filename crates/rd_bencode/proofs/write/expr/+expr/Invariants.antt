use Rattle.std.proofs.Common.{◌≡◌, ◌++◌, ◌+◌, ◌*◌, max, drop, map}
use denote.Param.Weighed.{most}
use Rattle.rd_value.specs.declared.value.FileValue.{FileValue}
use Rattle.rd_value.specs.declared.expr.Lazy.{size-Lazy}
use Rattle.rd_value.specs.Canon.{canon_expr, joined, named, under_key}
use Rattle.rd_bencode.proofs.write.expr.+expr.Given as goal

abbrev pub invariant-push_parts-loop-part : goal.invariant-push_parts-loop-part
invariant-push_parts-loop-part l = l.out.items ++ joined (map (canon_expr (λ f. f)) (drop l.part-index l.parts)) ≡ l.initial.out.items ++ joined (map (canon_expr (λ f. f)) l.parts)

abbrev pub invariant-push_keywords-loop-name : goal.invariant-push_keywords-loop-name
invariant-push_keywords-loop-name l = l.out.items ++ joined (map named (map (λ p. (p.0, canon_expr (λ f. f) p.1)) (drop l.name-index l.keywords))) ≡ l.initial.out.items ++ joined (map named (map (λ p. (p.0, canon_expr (λ f. f) p.1)) l.keywords))

abbrev pub invariant-push_pairs-loop-key : goal.invariant-push_pairs-loop-key
invariant-push_pairs-loop-key l = l.out.items ++ joined (map (under_key (λ f. f)) (map (λ p. (p.0, canon_expr (λ f. f) p.1)) (drop l.key-index l.pairs))) ≡ l.initial.out.items ++ joined (map (under_key (λ f. f)) (map (λ p. (p.0, canon_expr (λ f. f) p.1)) l.pairs))

-- a list is walked before its parts, and the parts of a kind before their lists
abbrev pub decreases-push_expr : goal.decreases-push_expr
decreases-push_expr l = 3 * size-Lazy FileValue l.expr.now

abbrev pub decreases-push_parts : goal.decreases-push_parts
decreases-push_parts l = 3 * most (size-Lazy FileValue) l.parts.now + 1

abbrev pub decreases-push_keywords : goal.decreases-push_keywords
decreases-push_keywords l = 3 * most (λ p. size-Lazy FileValue p.1) l.keywords.now + 1

abbrev pub decreases-push_pairs : goal.decreases-push_pairs
decreases-push_pairs l = 3 * most (λ p. size-Lazy FileValue p.1) l.pairs.now + 1

abbrev pub decreases-push_op : goal.decreases-push_op
decreases-push_op l = 3 * most (size-Lazy FileValue) l.parts.now + 2

abbrev pub decreases-push_call : goal.decreases-push_call
decreases-push_call l = 3 * max (most (size-Lazy FileValue) l.positional.now) (most (λ p. size-Lazy FileValue p.1) l.keywords.now) + 2

abbrev pub decreases-push_cond : goal.decreases-push_cond
decreases-push_cond l = 3 * max (max (size-Lazy FileValue l.test.now) (size-Lazy FileValue l.when_true.now)) (size-Lazy FileValue l.when_false.now) + 1

abbrev pub decreases-push_map : goal.decreases-push_map
decreases-push_map l = 3 * size-Lazy FileValue l.list.now + 1

abbrev pub decreases-push_catch : goal.decreases-push_catch
decreases-push_catch l = 3 * size-Lazy FileValue l.tried.now + 1
