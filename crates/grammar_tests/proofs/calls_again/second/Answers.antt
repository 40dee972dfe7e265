use Rattle.std.proofs.Common.{◌≡◌, ◌+◌, ◌-◌, ℕ, List, Option, Some, None, IfSome, length, arith}
use Rattle.rule_arena.specs.declared.key.Key.{Key}
use Rattle.slt_grammar.specs.Keyed.{KeyedRule, key_at}
use Rattle.slt_grammar.specs.Wrapping.{IsInStart}
use Rattle.slt_grammar.proofs.KeyedLemmas.{length-rules_of}
use Rattle.grammar_tests.proofs.calls_again.second.Goals as goal

in-start : (found : Option Key) (G : List KeyedRule) (r : ℕ) → key_at G r 1 ≡ found → r + 1 ≡ length G → IfSome found (λ key. IsInStart G key)
in-start None G r e s = tt
in-start (Some key) G r e s = record { here = record { rule = r; place = 1; there = e }; start = s }

pub returns : goal.returns
returns g c =
    let G = c.args.grammar.now.rules in
    let r = c.rules-start.result - 1 in
    in-start c.next_in_preorder.result G r (c.next_in_preorder.ensures.next r 0 c.root.ensures)
    (omega (arith, c.rules-start.ensures.value, c.rules-start.ensures.grammar.some, length-rules_of G))
