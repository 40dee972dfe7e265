use Rattle.std.proofs.Common.{◌≡◌, Some, List, sym, subst, arith}
use Rattle.rule_arena.specs.declared.key.Key.{Key}
use Rattle.slt_grammar.specs.Calling.{BeginsWith}
use Rattle.slt_grammar.specs.Keyed.{KeyedRule, key_at}
use Rattle.slt_grammar.specs.KeyedEdits.{Stands}
use Rattle.grammar_tests.proofs.calls_again.call_again.Goals as goal

pub call_at-requires-clause-begins : goal.call_at-requires-clause-begins
call_at-requires-clause-begins g c =
    let I = c.requires.there in
    let S : Stands c.reserve.new.self.rules c.args.at = record {
      rule = I.here.rule;
      place = I.here.place;
      there = subst (λ (G : List KeyedRule). key_at G I.here.rule I.here.place ≡ Some c.args.at) (sym c.reserve.ensures.rules) I.here.there;
    } in
    subst (λ (keys : List Key). BeginsWith c.reserve.new.self.rules c.args.at 0 keys) (sym c.as_slice.ensures.value) (c.in-Some.ensures.some S (omega (arith, I.start, c.requires.two)))
