use Rattle.std.proofs.Common.{◌≡◌, ◌<◌, ◌≤◌, ◌+◌, ◌∷◌, [], List, length, ap, sym, subst, ◌∙◌, arith}
use Rattle.std.proofs.lemmas.List.{length-map}
use Rattle.rule_arena.specs.declared.label.Label.{Label}
use Rattle.slt_grammar.specs.Algebras.{ranks_of}
use Rattle.slt_grammar.specs.Bodies.{CallsBelow, IsTerm, params, real_nodes}
use Rattle.slt_grammar.specs.Grammars.{body_at}
use Rattle.slt_grammar.specs.Keyed.{rules_of}
use Rattle.slt_grammar.proofs.RuleMeanings.{rank_at-ranks_of}
use Rattle.border_repair.specs.Sizes.{AreSmall}
use Rattle.border_repair.specs.Cutting.{IsCutOff}
use Rattle.border_repair.specs.Expanding.{IsExposing, AreClean, Expands, outside_at}
use Rattle.border_repair.proofs.ExposeSteps.{ranks-known, expanded-term, expanded-below, expanded-params, exposing-next, clean-next}
use Rattle.border_repair.proofs.PartRanks.{rank-within}
use Rattle.border_repair.proofs.SizeLemmas.{small-push, expands-few, real-append}
use Rattle.border_repair.proofs.replacing.add_outside.Goals as goal

pub expand-requires-clause-ranks : goal.expand-requires-clause-ranks
expand-requires-clause-ranks g c q b =
    let G = rules_of c.args.grammar.now.rules in
    let many : length G ≡ length c.args.grammar.now.rules = length-map c.args.grammar.now.rules _ in
    let h : c.args.rule < length G = omega (arith, c.requires.there) in
    ap (λ (os : List (List Label)). params (outside_at os q)) c.as_slice.ensures.value ∙ ranks-known G c.requires.grammar c.args.rule h c.args.rules.now c.args.outsides.now.items c.requires.exposing q b

pub cut-requires-clause-term : goal.cut-requires-clause-term
cut-requires-clause-term g c =
    let G = rules_of c.args.grammar.now.rules in
    let many : length G ≡ length c.args.grammar.now.rules = length-map c.args.grammar.now.rules _ in
    let h : c.args.rule < length G = omega (arith, c.requires.there) in
    let x = subst (λ (os : List (List Label)). Expands (ranks_of G) (outside_at os) (body_at G c.args.rule) (c.expand.new.labels.items ∷ [])) c.as_slice.ensures.value c.in_ok-expand.ensures in
    subst (IsTerm (ranks_of c.args.rules.now)) (sym c.as_slice-2.ensures.value) (expanded-term G c.requires.grammar c.args.rule h c.args.rules.now c.args.outsides.now.items c.requires.exposing c.expand.new.labels.items x)

pub cut-requires-clause-below : goal.cut-requires-clause-below
cut-requires-clause-below g c =
    let G = rules_of c.args.grammar.now.rules in
    let many : length G ≡ length c.args.grammar.now.rules = length-map c.args.grammar.now.rules _ in
    let h : c.args.rule < length G = omega (arith, c.requires.there) in
    let x = subst (λ (os : List (List Label)). Expands (ranks_of G) (outside_at os) (body_at G c.args.rule) (c.expand.new.labels.items ∷ [])) c.as_slice.ensures.value c.in_ok-expand.ensures in
    subst (CallsBelow (length c.args.rules.now)) (sym c.as_slice-2.ensures.value) (expanded-below G c.requires.grammar c.args.rule h c.args.rules.now c.args.outsides.now.items c.requires.exposing c.expand.new.labels.items x)

pub returns-clause-exposing : goal.returns-clause-exposing
returns-clause-exposing g c =
    let G = rules_of c.args.grammar.now.rules in
    let many : length G ≡ length c.args.grammar.now.rules = length-map c.args.grammar.now.rules _ in
    let h : c.args.rule < length G = omega (arith, c.requires.there) in
    let x = subst (λ (os : List (List Label)). Expands (ranks_of G) (outside_at os) (body_at G c.args.rule) (c.expand.new.labels.items ∷ [])) c.as_slice.ensures.value c.in_ok-expand.ensures in
    let cut = subst (λ (ls : List Label). IsCutOff c.args.digram c.args.rules.now c.cut.new.rules ls c.in_ok-outside.outside) c.as_slice-2.ensures.value c.in_ok-outside.ensures.cut in
    subst (λ (os : List (List Label)). IsExposing G (c.args.rule + 1) c.cut.new.rules os) (sym c.in_ok-push.ensures.items)
    (exposing-next G c.requires.grammar c.args.rule h c.args.rules.now c.args.outsides.now.items c.requires.exposing c.expand.new.labels.items x c.args.digram c.cut.new.rules c.in_ok-outside.outside cut)

pub returns-clause-clean : goal.returns-clause-clean
returns-clause-clean g c =
    let G = rules_of c.args.grammar.now.rules in
    let many : length G ≡ length c.args.grammar.now.rules = length-map c.args.grammar.now.rules _ in
    let h : c.args.rule < length G = omega (arith, c.requires.there) in
    let x = subst (λ (os : List (List Label)). Expands (ranks_of G) (outside_at os) (body_at G c.args.rule) (c.expand.new.labels.items ∷ [])) c.as_slice.ensures.value c.in_ok-expand.ensures in
    let cut = subst (λ (ls : List Label). IsCutOff c.args.digram c.args.rules.now c.cut.new.rules ls c.in_ok-outside.outside) c.as_slice-2.ensures.value c.in_ok-outside.ensures.cut in
    subst (λ (os : List (List Label)). AreClean c.args.digram (c.args.rule + 1) c.cut.new.rules os) (sym c.in_ok-push.ensures.items)
    (clean-next G c.requires.grammar c.args.rule h c.args.rules.now c.args.outsides.now.items c.requires.exposing c.expand.new.labels.items x c.args.digram c.cut.new.rules c.in_ok-outside.outside cut c.requires.clean)

pub returns-clause-grown : goal.returns-clause-grown
returns-clause-grown g c = let cut = c.in_ok-outside.ensures.cut in (cut.more, cut.grown)

pub returns-clause-small : goal.returns-clause-small
returns-clause-small g c =
    let G = rules_of c.args.grammar.now.rules in
    let many : length G ≡ length c.args.grammar.now.rules = length-map c.args.grammar.now.rules _ in
    let h : c.args.rule < length G = omega (arith, c.requires.there) in
    let x = subst (λ (os : List (List Label)). Expands (ranks_of G) (outside_at os) (body_at G c.args.rule) (c.expand.new.labels.items ∷ [])) c.as_slice.ensures.value c.in_ok-expand.ensures in
    let p = expanded-params G c.requires.grammar c.args.rule h c.args.rules.now c.args.outsides.now.items c.requires.exposing c.expand.new.labels.items x in
    let rank = (c.requires.grammar.each c.args.rule h).shaped.small in
    let few : real_nodes c.in_ok-outside.outside ≤ 28 = omega (arith, c.in_ok-outside.ensures.small.few, ap params c.as_slice-2.ensures.value, p, rank_at-ranks_of G c.args.rule, rank) in
    subst (λ (os : List (List Label)). AreSmall os) (sym c.in_ok-push.ensures.items) (small-push c.args.outsides.now.items c.in_ok-outside.outside c.requires.small few)

pub returns-clause-size : goal.returns-clause-size
returns-clause-size g c =
    let G = rules_of c.args.grammar.now.rules in
    let x = subst (λ (os : List (List Label)). Expands (ranks_of G) (outside_at os) (body_at G c.args.rule) (c.expand.new.labels.items ∷ [])) c.as_slice.ensures.value c.in_ok-expand.ensures in
    let few = expands-few (ranks_of G) (outside_at c.args.outsides.now.items) c.requires.small (body_at G c.args.rule) (c.expand.new.labels.items ∷ []) x in
    omega (arith, c.in_ok-outside.ensures.small.ruled, ap real_nodes c.as_slice-2.ensures.value, few, real-append c.expand.new.labels.items [])

pub returns-clause-ranks : goal.returns-clause-ranks
returns-clause-ranks g c =
    let G = rules_of c.args.grammar.now.rules in
    let many : length G ≡ length c.args.grammar.now.rules = length-map c.args.grammar.now.rules _ in
    let h : c.args.rule < length G = omega (arith, c.requires.there) in
    let x = subst (λ (os : List (List Label)). Expands (ranks_of G) (outside_at os) (body_at G c.args.rule) (c.expand.new.labels.items ∷ [])) c.as_slice.ensures.value c.in_ok-expand.ensures in
    let p = expanded-params G c.requires.grammar c.args.rule h c.args.rules.now c.args.outsides.now.items c.requires.exposing c.expand.new.labels.items x in
    omega (arith, c.in_ok-outside.ensures.ranks, ap params c.as_slice-2.ensures.value, p, rank_at-ranks_of G c.args.rule, rank-within G c.args.rule)
