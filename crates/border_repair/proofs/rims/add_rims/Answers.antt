use Rattle.std.proofs.Common.{◌≡◌, ◌<◌, length, List, ◌∷◌, [], ap, sym, subst, ◌∙◌, arith, length-append}
use Rattle.std.proofs.lemmas.List.{length-map}
use Rattle.slt_grammar.specs.Grammars.{body_at}
use Rattle.slt_grammar.specs.Keyed.{rules_of}
use Rattle.border_repair.specs.Rims.{rim_at}
use Rattle.border_repair.specs.Weighing.{Rim, rim_of}
use Rattle.border_repair.proofs.RimSteps.{rims-more}
use Rattle.border_repair.proofs.rims.add_rims.Goals as goal

pub loop-rule-preserved : goal.loop-rule-preserved
loop-rule-preserved g c =
    let G = rules_of c.args.grammar.now.rules in
    let i = c.loop-rule.invariant in
    let many : length G ≡ length c.args.grammar.now.rules = length-map c.args.grammar.now.rules _ in
    let there : c.loop-rule.rule < length G = omega arith in
    record {
      many = ap length c.in_ok-push.ensures.items ∙ omega (arith, length-append c.loop-rule.rims.items (c.in_ok-rim.rim ∷ []), i.many);
      each = λ r l. subst (λ (rims : List Rim). rim_at rims r ≡ rim_of (rim_at rims) (body_at G r)) (sym c.in_ok-push.ensures.items)
          (rims-more G c.loop-rule.rims.items c.in_ok-rim.rim c.loop-rule.rule c.requires.grammar there i.many i.each (c.in_ok-rim.ensures ∙ ap (λ (rims : List Rim). rim_of (rim_at rims) (body_at G c.loop-rule.rule)) c.as_slice.ensures.value) r l);
    }

pub returns : goal.returns
returns g c =
    let G = rules_of c.args.grammar.now.rules in
    let many : length G ≡ length c.args.grammar.now.rules = length-map c.args.grammar.now.rules _ in
    let end : c.loop-rule.rule ≡ length G = omega arith in
    record { many = c.loop-rule.invariant.many ∙ end; each = λ r l. c.loop-rule.invariant.each r (subst (λ n. r < n) (sym end) l) }
