use Rattle.std.proofs.Common.{◌≡◌, ◌<◌, ◌+◌, ◌-◌, ◌++◌, ◌∷◌, [], List, length, append_assoc, append-nil, ap, sym, subst, ◌∙◌, arith}
use Rattle.std.proofs.lemmas.List.{length-map}
use Rattle.rule_arena.specs.declared.label.Label.{Label}
use Rattle.slt_grammar.specs.Algebras.{ranks_of}
use Rattle.slt_grammar.specs.Bodies.{params, real_nodes}
use Rattle.slt_grammar.specs.Grammars.{body_at, size}
use Rattle.slt_grammar.specs.Keyed.{rules_of}
use Rattle.slt_grammar.specs.declared.rules.Rule.{Rule}
use Rattle.border_repair.specs.Cuts.{AreCalm}
use Rattle.border_repair.specs.Expanding.{IsExposed, Expands, outside_at}
use Rattle.border_repair.specs.Sizes.{AreSmall}
use Rattle.slt_grammar.specs.Ranks.{greatest_rank}
use Rattle.border_repair.proofs.PartRanks.{ranks-push}
use Rattle.border_repair.proofs.SizeLemmas.{no-outsides, size-more, size-take, size-push, expands-few, real-append}
use Rattle.border_repair.proofs.ExposeSteps.{exposing-start, ranks-known, exposed-all, start-calm}
use Rattle.border_repair.proofs.replacing.add_exposed.Goals as goal

pub expand-requires-clause-ranks : goal.expand-requires-clause-ranks
expand-requires-clause-ranks g c q b =
    let G = rules_of c.args.grammar.now.rules in
    let many : length G ≡ length c.args.grammar.now.rules = length-map c.args.grammar.now.rules _ in
    let l = c.rules-start.ensures.grammar.some in
    let end : c.rules.rule ≡ c.rules-start.result - 1 = omega arith in
    let h : c.rules.rule < length G = omega (arith, c.rules-start.ensures.value) in
    ap (λ (os : List (List Label)). params (outside_at os q)) c.as_slice.ensures.value
    ∙ ranks-known G c.rules-start.ensures.grammar c.rules.rule h c.rules.rules c.rules.outsides.items c.rules.invariant.exposing q (subst (λ n. q < n) (sym end) b)

pub rules-init : goal.rules-init
rules-init g c = record {
  clean = record { calm = c.requires.calm; clean = λ q b. absurd (omega arith) };
  exposing = exposing-start (rules_of c.args.grammar.now.rules) c.args.rules.now c.args.outsides.now.items c.requires.first c.requires.none;
  small = subst (λ (os : List (List Label)). AreSmall os) (sym c.requires.none) no-outsides;
  few = omega arith;
  ranks = omega arith;
  grown = ([], sym (append-nil c.args.rules.now));
}

pub rules-preserved : goal.rules-preserved
rules-preserved g c =
    let e = c.in_ok-add_outside.ensures in
    let i = c.rules.invariant.grown in
    let G = rules_of c.args.grammar.now.rules in
    let many : length G ≡ length c.args.grammar.now.rules = length-map c.args.grammar.now.rules _ in
    let l = c.rules-start.ensures.grammar.some in
    let h : c.rules.rule < length G = omega (arith, c.rules-start.ensures.value) in
    record {
      exposing = e.exposing;
      clean = e.clean;
      small = e.small;
      few = omega (arith, e.size, c.rules.invariant.few, size-more G c.rules.rule h);
      ranks = omega (arith, e.ranks, c.rules.invariant.ranks);
      grown = (i.0 ++ e.grown.0, e.grown.1 ∙ ap (λ (G : List Rule). G ++ e.grown.0) i.1 ∙ append_assoc c.args.rules.now i.0 e.grown.0);
    }

pub returns-clause-grown : goal.returns-clause-grown
returns-clause-grown g c =
    let i = c.rules.invariant.grown in
    let R : Rule = record { rank = 0; body = c.in_ok-copied.field-0 } in
    (i.0 ++ R ∷ [], c.in_ok-push.ensures.ok ∙ ap (λ (G : List Rule). G ++ R ∷ []) i.1 ∙ append_assoc c.args.rules.now i.0 (R ∷ []))

pub returns-clause-exposed : goal.returns-clause-exposed
returns-clause-exposed g c =
    let G = rules_of c.args.grammar.now.rules in
    let many : length G ≡ length c.args.grammar.now.rules = length-map c.args.grammar.now.rules _ in
    let l = c.rules-start.ensures.grammar.some in
    let end : c.rules-start.result - 1 ≡ c.rules.rule = omega arith in
    let h : c.rules.rule < length G = omega (arith, c.rules-start.ensures.value) in
    let last : c.rules.rule + 1 ≡ length G = omega (arith, c.rules-start.ensures.value) in
    let x = subst (λ (os : List (List Label)). Expands (ranks_of G) (outside_at os) (body_at G (c.rules-start.result - 1)) (c.expand.new.labels.items ∷ [])) c.as_slice.ensures.value c.in_ok-expand.ensures in
    let y = subst (λ n. Expands (ranks_of G) (outside_at c.rules.outsides.items) (body_at G n) (c.expand.new.labels.items ∷ [])) end x in
    let R : Rule = record { rank = 0; body = c.in_ok-copied.field-0 } in
    let e = exposed-all G c.rules-start.ensures.grammar c.rules.rule h c.rules.rules c.rules.outsides.items c.rules.invariant.exposing c.expand.new.labels.items y last R (c.in_ok-copied.ensures ∙ c.as_slice-2.ensures.value) in
    (outside_at c.rules.outsides.items, subst (λ H. IsExposed G H (outside_at c.rules.outsides.items)) (sym c.in_ok-push.ensures.ok) e)

pub returns-clause-calm : goal.returns-clause-calm
returns-clause-calm g c =
    let G = rules_of c.args.grammar.now.rules in
    let many : length G ≡ length c.args.grammar.now.rules = length-map c.args.grammar.now.rules _ in
    let l = c.rules-start.ensures.grammar.some in
    let end : c.rules-start.result - 1 ≡ c.rules.rule = omega arith in
    let h : c.rules.rule < length G = omega (arith, c.rules-start.ensures.value) in
    let last : c.rules.rule + 1 ≡ length G = omega (arith, c.rules-start.ensures.value) in
    let x = subst (λ (os : List (List Label)). Expands (ranks_of G) (outside_at os) (body_at G (c.rules-start.result - 1)) (c.expand.new.labels.items ∷ [])) c.as_slice.ensures.value c.in_ok-expand.ensures in
    let y = subst (λ n. Expands (ranks_of G) (outside_at c.rules.outsides.items) (body_at G n) (c.expand.new.labels.items ∷ [])) end x in
    let R : Rule = record { rank = 0; body = c.in_ok-copied.field-0 } in
    subst (AreCalm c.args.digram) (sym c.in_ok-push.ensures.ok)
    (start-calm G c.rules-start.ensures.grammar c.rules.rule h c.rules.rules c.rules.outsides.items c.rules.invariant.exposing c.expand.new.labels.items y last c.args.digram R (c.in_ok-copied.ensures ∙ c.as_slice-2.ensures.value) c.rules.invariant.clean)

pub add_outside-requires-clause-clean : goal.add_outside-requires-clause-clean
add_outside-requires-clause-clean g c = c.rules.invariant.clean

pub add_outside-requires-clause-small : goal.add_outside-requires-clause-small
add_outside-requires-clause-small g c = c.rules.invariant.small

pub returns-clause-size : goal.returns-clause-size
returns-clause-size g c =
    let G = rules_of c.args.grammar.now.rules in
    let many : length G ≡ length c.args.grammar.now.rules = length-map c.args.grammar.now.rules _ in
    let l = c.rules-start.ensures.grammar.some in
    let end : c.rules-start.result - 1 ≡ c.rules.rule = omega arith in
    let h : c.rules.rule < length G = omega (arith, c.rules-start.ensures.value) in
    let x = subst (λ (os : List (List Label)). Expands (ranks_of G) (outside_at os) (body_at G (c.rules-start.result - 1)) (c.expand.new.labels.items ∷ [])) c.as_slice.ensures.value c.in_ok-expand.ensures in
    let y = subst (λ n. Expands (ranks_of G) (outside_at c.rules.outsides.items) (body_at G n) (c.expand.new.labels.items ∷ [])) end x in
    let R : Rule = record { rank = 0; body = c.in_ok-copied.field-0 } in
    let few = expands-few (ranks_of G) (outside_at c.rules.outsides.items) c.rules.invariant.small (body_at G c.rules.rule) (c.expand.new.labels.items ∷ []) y in
    omega (
      arith,
      ap size c.in_ok-push.ensures.ok,
      size-push c.rules.rules R,
      ap real_nodes (c.in_ok-copied.ensures ∙ c.as_slice-2.ensures.value),
      few,
      real-append c.expand.new.labels.items [],
      c.rules.invariant.few,
      size-more G c.rules.rule h,
      size-take G (c.rules.rule + 1),
    )

pub returns-clause-ranks : goal.returns-clause-ranks
returns-clause-ranks g c =
    let R : Rule = record { rank = 0; body = c.in_ok-copied.field-0 } in
    omega (arith, ap greatest_rank c.in_ok-push.ensures.ok, ranks-push c.rules.rules R, c.rules.invariant.ranks)
