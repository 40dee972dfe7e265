use Rattle.std.proofs.Common.{◌≡◌, inl, ◌<◌, ◌∷◌, [], drop, ◌+◌, ◌-◌, List, length, get_or, reverse, ap, sym, subst, ◌∙◌, arith}
use Rattle.std.proofs.lemmas.List.{get_or_default, length-reverse}
use Rattle.rule_arena.specs.declared.label.Label.{Label}
use Rattle.rule_arena.specs.declared.label.Label.TheVariants.{Bottom}
use Rattle.slt_grammar.specs.Bodies.{params, real_nodes}
use Rattle.slt_grammar.proofs.Meanings.{params-append}
use Rattle.border_repair.specs.Sizes.{free}
use Rattle.border_repair.specs.declared.cutting.Mark.{Mark}
use Rattle.border_repair.proofs.PartRanks.{held-before, held-last, held-more, params-drop, params-reverse}
use Rattle.border_repair.proofs.SizeLemmas.{real-append, real-reverse, not-zero}
use Rattle.border_repair.specs.Cutting.{IsCutOff}
use Rattle.border_repair.proofs.Suffixes.{IsReading, drop-at, reading-start, can-read, call-below, reading-next, can-finish, finished}
use Rattle.border_repair.proofs.cutting.Cutter.cut.Goals as goal

pub labels-init : goal.labels-init
labels-init c =
    let marks = ap (λ (ms : List Mark). free (reverse ms)) c.clear.ensures.items in
    let args = ap real_nodes c.clear-3.ensures.items in
    record {
      reading = reading-start c.args.digram c.args.rules.now c.args.body.now (reverse c.clear.new.self.items) (reverse c.clear-2.new.self.items) (reverse c.clear-3.new.self.items) (ap reverse c.clear.ensures.items) (ap reverse c.clear-2.ensures.items) (ap reverse c.clear-3.ensures.items);
      parts = omega (arith, ap real_nodes c.clear-2.ensures.items);
      any = omega (arith, marks, args);
      ranks = omega arith;
      held = inl (omega (arith, ap params c.clear-2.ensures.items));
      others = λ l. omega (arith, marks, args);
    }

pub read-requires-clause-below : goal.read-requires-clause-below
read-requires-clause-below c =
    let k = c.labels.self in
    let body = c.args.body.now in
    let more : c.labels.left ≡ (c.labels.left - 1) + 1 = omega arith in
    let in_body : c.labels.left - 1 < length body = omega (arith, c.labels.invariant.reading.within) in
    let r = subst (λ n. IsReading c.args.digram c.args.rules.now body n c.labels.rules (reverse k.marks.items) (reverse k.parts.items) (reverse k.args.items)) more c.labels.invariant.reading in
    call-below c.args.digram c.args.rules.now body c.requires.term c.requires.below (c.labels.left - 1) c.labels.rules (reverse k.marks.items) (reverse k.parts.items) (reverse k.args.items) r (get_or body (c.labels.left - 1) Bottom)
    (get_or_default body (c.labels.left - 1) (get_or body (c.labels.left - 1) Bottom) Bottom in_body)

pub read-requires-clause-can : goal.read-requires-clause-can
read-requires-clause-can c =
    let k = c.labels.self in
    let body = c.args.body.now in
    let more : c.labels.left ≡ (c.labels.left - 1) + 1 = omega arith in
    let in_body : c.labels.left - 1 < length body = omega (arith, c.labels.invariant.reading.within) in
    let r = subst (λ n. IsReading c.args.digram c.args.rules.now body n c.labels.rules (reverse k.marks.items) (reverse k.parts.items) (reverse k.args.items)) more c.labels.invariant.reading in
    can-read c.args.digram c.args.rules.now body c.requires.term c.requires.below (c.labels.left - 1) c.labels.rules (reverse k.marks.items) (reverse k.parts.items) (reverse k.args.items) r (get_or body (c.labels.left - 1) Bottom)
    (get_or_default body (c.labels.left - 1) (get_or body (c.labels.left - 1) Bottom) Bottom in_body)

pub labels-preserved : goal.labels-preserved
labels-preserved c =
    let k = c.labels.self in
    let j = c.read.new.cutter in
    let body = c.args.body.now in
    let label = get_or body (c.labels.left - 1) Bottom in
    let more : c.labels.left ≡ (c.labels.left - 1) + 1 = omega arith in
    let in_body : c.labels.left - 1 < length body = omega (arith, c.labels.invariant.reading.within) in
    let r = subst (λ n. IsReading c.args.digram c.args.rules.now body n c.labels.rules (reverse k.marks.items) (reverse k.parts.items) (reverse k.args.items)) more c.labels.invariant.reading in
    let here = get_or_default body (c.labels.left - 1) label Bottom in_body in
    let can = can-read c.args.digram c.args.rules.now body c.requires.term c.requires.below (c.labels.left - 1) c.labels.rules (reverse k.marks.items) (reverse k.parts.items) (reverse k.args.items) r label here in
    let next : drop (c.labels.left - 1) body ≡ label ∷ drop ((c.labels.left - 1) + 1) body = drop-at body (c.labels.left - 1) label in_body here in
    let rest = drop ((c.labels.left - 1) + 1) body in
    let real = ap real_nodes next ∙ real-append (label ∷ []) (drop ((c.labels.left - 1) + 1) body) in
    let par = ap params next ∙ params-append (label ∷ []) (drop ((c.labels.left - 1) + 1) body) in
    let same = ap (λ n. drop n body) more in
    let i = c.labels.invariant in
    let o = i.others (omega arith) in
    let z = c.in_ok-read.ensures.small in
    record {
      parts = omega (arith, z.ruled, i.parts, real, ap real_nodes same);
      any = omega (arith, z.any, o, par, ap params same);
      ranks =
          let few = held-before c.labels.left (reverse k.marks.items) (params k.parts.items) (params (drop c.labels.left body)) (omega arith) i.held in
          omega (arith, c.in_ok-read.ensures.ranks.ruled, i.ranks, few, params-drop c.labels.left body);
      held =
          let few = held-before c.labels.left (reverse k.marks.items) (params k.parts.items) (params (drop c.labels.left body)) (omega arith) i.held in
          held-more (c.labels.left - 1) (reverse j.marks.items) (params k.parts.items) (params (label ∷ [])) (params j.parts.items) (params (drop (c.labels.left - 1) body))
          (omega (arith, few, par, ap params same)) c.in_ok-read.ensures.ranks.left;
      others = λ l. omega (arith, z.others (not-zero (c.labels.left - 1) l), o, par, ap params same);
      reading = reading-next c.args.digram c.args.rules.now body c.requires.term c.requires.below (c.labels.left - 1) c.labels.rules (reverse k.marks.items) (reverse k.parts.items) (reverse k.args.items) r label here
          c.read.new.rules (reverse j.marks.items) (reverse j.parts.items) (reverse j.args.items) (c.in_ok-read.ensures.read can);
    }

pub close-requires : goal.close-requires
close-requires c =
    let k = c.labels.self in
    let body = c.args.body.now in
    let end : c.labels.left ≡ 0 = omega arith in
    let r = subst (λ n. IsReading c.args.digram c.args.rules.now body n c.labels.rules (reverse k.marks.items) (reverse k.parts.items) (reverse k.args.items)) end c.labels.invariant.reading in
    can-finish c.args.digram c.args.rules.now body c.requires.term c.requires.below c.labels.rules (reverse k.marks.items) (reverse k.parts.items) (reverse k.args.items) r c.len-end.result (c.len-end.ensures ∙ k.args.ok.0 ∙ sym (length-reverse k.args.items))

pub returns-clause-cut : goal.returns-clause-cut
returns-clause-cut c =
    let k = c.labels.self in
    let j = c.close.new.cutter in
    let body = c.args.body.now in
    let end : c.labels.left ≡ 0 = omega arith in
    let r = subst (λ n. IsReading c.args.digram c.args.rules.now body n c.labels.rules (reverse k.marks.items) (reverse k.parts.items) (reverse k.args.items)) end c.labels.invariant.reading in
    let can = can-finish c.args.digram c.args.rules.now body c.requires.term c.requires.below c.labels.rules (reverse k.marks.items) (reverse k.parts.items) (reverse k.args.items) r c.len-end.result (c.len-end.ensures ∙ k.args.ok.0 ∙ sym (length-reverse k.args.items)) in
    let x = c.in_ok-close.ensures.closed can in
    let f = finished c.args.digram c.args.rules.now body c.requires.term c.requires.below c.labels.rules (reverse k.marks.items) (reverse k.parts.items) (reverse k.args.items) r c.close.new.rules (reverse j.marks.items) (reverse j.parts.items) (reverse j.args.items) c.in_ok-close.field-0 x in
    subst (λ (o : List Label). IsCutOff c.args.digram c.args.rules.now c.close.new.rules body o) (sym (c.in_ok-outside.ensures ∙ ap reverse c.as_slice.ensures.value)) f

pub returns-clause-small : goal.returns-clause-small
returns-clause-small c =
    let j = c.close.new.cutter in
    let body = c.args.body.now in
    let end : c.labels.left ≡ 0 = omega arith in
    let same = ap (λ n. drop n body) end in
    let x = c.in_ok-close.ensures.off in
    let i = c.labels.invariant in
    record {
      ruled = omega (arith, x.ruled, i.parts, ap real_nodes same);
      few = omega (arith, ap real_nodes (c.in_ok-outside.ensures ∙ ap reverse c.as_slice.ensures.value), real-reverse j.args.items, x.called, i.any, ap params same);
    }

pub returns-clause-ranks : goal.returns-clause-ranks
returns-clause-ranks c =
    let k = c.labels.self in
    let body = c.args.body.now in
    let end : c.labels.left ≡ 0 = omega arith in
    let r = subst (λ n. IsReading c.args.digram c.args.rules.now body n c.labels.rules (reverse k.marks.items) (reverse k.parts.items) (reverse k.args.items)) end c.labels.invariant.reading in
    let can = can-finish c.args.digram c.args.rules.now body c.requires.term c.requires.below c.labels.rules (reverse k.marks.items) (reverse k.parts.items) (reverse k.args.items) r c.len-end.result (c.len-end.ensures ∙ k.args.ok.0 ∙ sym (length-reverse k.args.items)) in
    let few = held-last c.labels.left (reverse k.marks.items) (reverse k.parts.items) (reverse k.args.items) can.piece (params k.parts.items) (params (drop c.labels.left body)) (params-reverse k.parts.items) can.holds c.labels.invariant.held in
    omega (arith, c.in_ok-close.ensures.ranks.ruled, c.labels.invariant.ranks, few, params-drop c.labels.left body)
