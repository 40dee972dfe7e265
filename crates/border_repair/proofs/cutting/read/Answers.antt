use Rattle.std.proofs.Common.{rules, ◌≡◌, ◌⊎◌, inl, inr, true, refl, ◌≤◌, ◌+◌, suc, drop, arith, ◌∷◌, [], List, reverse, ap, sym, subst, ◌∙◌}
use Rattle.std.proofs.lemmas.List.{length-reverse}
use Rattle.rule_arena.specs.declared.label.Label.{Label}
use Rattle.slt_grammar.specs.Algebras.{ranks_of}
use Rattle.slt_grammar.specs.Bodies.{arity, params, real_nodes}
use Rattle.slt_grammar.specs.declared.rules.Rule.{Rule}
use Rattle.border_repair.specs.Cutting.{HasParameterAt, IsReadOn}
use Rattle.border_repair.specs.Digrams.{IsEnd}
use Rattle.border_repair.specs.Sizes.{free}
use Rattle.border_repair.specs.declared.cutting.Mark.{Mark}
use Rattle.border_repair.proofs.PartRanks.{outer-ranked, params-reverse}
use Rattle.border_repair.proofs.SizeLemmas.{real-append, real-reverse, real-one, no-params, free-drop, free-drops, end-few}
use Rattle.border_repair.proofs.ReadSteps.{read-inner, read-outer, read-parameter, can_close, kids_held, end-arity}
use Rattle.border_repair.proofs.cutting.read.Goals as goal

pub close_kids-requires-clause-kids : goal.close_kids-requires-clause-kids
close_kids-requires-clause-kids c =
    let o = c.args.cutter.now in
    let end : IsEnd c.args.label = search rules in
    can_close c.args.digram c.args.rules.now (reverse o.marks.items) (reverse o.parts.items) (reverse o.args.items) c.args.label c.requires.can (arity [] c.args.label) (end-arity (ranks_of c.args.rules.now) [] c.args.label end)

pub returns-in-Param-clause-read : goal.returns-in-Param-clause-read
returns-in-Param-clause-read c w =
    let o = c.args.cutter.now in
    let k = c.add_outer.new.cutter in
    let e = c.in_ok-add_outer.ensures in
    subst (λ (l : Label). IsReadOn c.args.digram c.args.root c.args.rules.now c.args.rules.now (reverse k.marks.items) (reverse k.parts.items) (reverse k.args.items) (l ∷ w.labels)) (sym c.in-Param.is)
    (read-parameter c.args.digram c.args.root c.args.rules.now (reverse o.marks.items) (reverse o.parts.items) (reverse o.args.items) w.labels w.read e.marks.0 (reverse k.marks.items) (reverse k.parts.items) (reverse k.args.items)
    e.marks.1 (e.marks.2 ∙ sym (length-reverse o.parts.items)) (e.marks.3 ∙ c.len-start.ensures ∙ o.args.ok.0 ∙ sym (length-reverse o.args.items)) (e.marks.4 ∙ c.in-Param.is) e.marks.5 e.parts (e.args ∙ ap (λ (l : Label). l ∷ reverse o.args.items) c.in-Param.is))

pub returns-then-is_exposed-clause-read : goal.returns-then-is_exposed-clause-read
returns-then-is_exposed-clause-read c w =
    let o = c.args.cutter.now in
    let j = c.close_kids.new.cutter in
    let k = c.add_outer-then-is_exposed.new.cutter in
    let e = c.in_ok-add_outer-2.ensures in
    let end : IsEnd c.args.label = search rules in
    let x = c.in_ok-start.ensures.closed (can_close c.args.digram c.args.rules.now (reverse o.marks.items) (reverse o.parts.items) (reverse o.args.items) c.args.label w (arity [] c.args.label) (end-arity (ranks_of c.args.rules.now) [] c.args.label end)) in
    let exposed = subst (λ (ms : List Mark). ((c.args.label ≡ c.args.digram.upper) × HasParameterAt (reverse ms) c.args.digram.place) ⊎ ((c.args.root ≡ true) × (c.args.label ≡ c.args.digram.lower))) c.as_slice.ensures.value (c.if-is_exposed.ensures.exposed refl) in
    read-outer c.args.digram c.args.rules.now (reverse o.marks.items) (reverse o.parts.items) (reverse o.args.items) c.args.label w c.requires.apart c.args.root c.requires.below c.close_kids.new.rules (reverse j.marks.items) (reverse j.parts.items) (reverse j.args.items) c.in_ok-start.start x
    e.marks.0 (reverse k.marks.items) (reverse k.parts.items) (reverse k.args.items) end exposed c.in_default.not-Param e.marks.1 (e.marks.2 ∙ sym (length-reverse j.parts.items)) e.marks.3 e.marks.4 e.marks.5 e.parts e.args

pub returns-clause-read : goal.returns-clause-read
returns-clause-read c w =
    let o = c.args.cutter.now in
    let k = c.add_inner.new.cutter in
    let many = c.arity_of-kids.ensures ∙ ap (λ (G : List Rule). arity (ranks_of G) c.args.label) c.as_slice-2.ensures in
    let held = kids_held c.args.digram c.args.rules.now (reverse o.marks.items) (reverse o.parts.items) (reverse o.args.items) c.args.label w c.arity_of-kids.result (sym many) in
    let kept = subst (λ (ms : List Mark). c.args.label ≡ c.args.digram.upper → HasParameterAt (reverse ms) c.args.digram.place → ⊥) c.as_slice.ensures.value (c.if-is_exposed.ensures.kept refl) in
    read-inner c.args.digram c.args.rules.now (reverse o.marks.items) (reverse o.parts.items) (reverse o.args.items) c.args.label w c.requires.apart c.args.root c.requires.below (reverse k.marks.items) (reverse k.parts.items) (reverse k.args.items) c.in_default.not-Param (c.if-is_exposed.ensures.root refl) kept
    (c.in_ok-add_inner.ensures.held held)

pub returns-in-Param-clause-small : goal.returns-in-Param-clause-small
returns-in-Param-clause-small c =
    let o = c.args.cutter.now in
    let k = c.add_outer.new.cutter in
    let e = c.in_ok-add_outer.ensures in
    let parts = ap real_nodes e.parts in
    let args = ap real_nodes e.args in
    let marks = ap free e.marks.1 in
    let top = ap (λ (l : Label). params (l ∷ [])) e.marks.4 in
    let param = ap (λ (l : Label). params (l ∷ [])) c.in-Param.is in
    record {
      ruled = omega (arith, parts, real-reverse k.parts.items, real-reverse o.parts.items);
      any = omega (arith, args, real-reverse k.args.items, real-reverse o.args.items, marks, top, param, real-one c.args.label, real-append (c.args.label ∷ []) (reverse o.args.items));
      others = λ r. omega (arith, args, real-reverse k.args.items, real-reverse o.args.items, marks, top, param, real-one c.args.label, real-append (c.args.label ∷ []) (reverse o.args.items));
    }

pub returns-then-is_exposed-clause-small : goal.returns-then-is_exposed-clause-small
returns-then-is_exposed-clause-small c =
    let o = c.args.cutter.now in
    let j = c.close_kids.new.cutter in
    let k = c.add_outer-then-is_exposed.new.cutter in
    let e = c.in_ok-add_outer-2.ensures in
    let x = c.in_ok-start.ensures.off in
    let end : IsEnd c.args.label = search rules in
    let parts = ap real_nodes e.parts in
    let args = ap real_nodes e.args in
    let marks = ap free e.marks.1 in
    let top = ap (λ (l : Label). params (l ∷ [])) e.marks.4 in
    let none = no-params c.args.label c.in_default.not-Param in
    let left = ap free x.left in
    let R = reverse o.marks.items in
    record {
      ruled = omega (arith, parts, real-reverse k.parts.items, real-reverse j.parts.items, x.ruled);
      any = omega (
        arith,
        args,
        real-reverse k.args.items,
        real-reverse j.args.items,
        marks,
        top,
        none,
        real-one c.args.label,
        real-append (c.args.label ∷ []) (reverse j.args.items),
        x.called,
        left,
        free-drop (arity [] c.args.label) R,
        end-few c.args.label end,
      );
      others = λ r.
          let u = c.if-is_exposed.ensures.upper refl r in
          let p = subst (λ (ms : List Mark). suc (free (drop c.args.digram.place (reverse ms))) ≤ free (reverse ms)) c.as_slice.ensures.value (c.if-is_exposed.ensures.parameter refl r) in
          let place = subst (λ (l : Label). c.args.digram.place ≤ arity [] l) (sym u) c.requires.place in
          omega (
            arith,
            args,
            real-reverse k.args.items,
            real-reverse j.args.items,
            marks,
            top,
            none,
            real-one c.args.label,
            real-append (c.args.label ∷ []) (reverse j.args.items),
            x.called,
            left,
            free-drops c.args.digram.place (arity [] c.args.label) R place,
            p,
            end-few c.args.label end,
          );
    }

pub returns-in-Param-clause-ranks : goal.returns-in-Param-clause-ranks
returns-in-Param-clause-ranks c =
    let o = c.args.cutter.now in
    let k = c.add_outer.new.cutter in
    record {
      ruled = omega arith;
      left = inl (omega (arith, ap params c.in_ok-add_outer.ensures.parts, params-reverse k.parts.items, params-reverse o.parts.items, ap (λ (l : Label). params (l ∷ [])) c.in-Param.is));
    }

pub returns-then-is_exposed-clause-ranks : goal.returns-then-is_exposed-clause-ranks
returns-then-is_exposed-clause-ranks c =
    let o = c.args.cutter.now in
    let j = c.close_kids.new.cutter in
    let k = c.add_outer-then-is_exposed.new.cutter in
    let e = c.in_ok-add_outer-2.ensures in
    let w = c.requires.can in
    let end : IsEnd c.args.label = search rules in
    let can = can_close c.args.digram c.args.rules.now (reverse o.marks.items) (reverse o.parts.items) (reverse o.args.items) c.args.label w (arity [] c.args.label) (end-arity (ranks_of c.args.rules.now) [] c.args.label end) in
    let x = c.in_ok-start.ensures.closed can in
    let exposed = subst (λ (ms : List Mark). ((c.args.label ≡ c.args.digram.upper) × HasParameterAt (reverse ms) c.args.digram.place) ⊎ ((c.args.root ≡ true) × (c.args.label ≡ c.args.digram.lower))) c.as_slice.ensures.value (c.if-is_exposed.ensures.exposed refl) in
    let few : params k.parts.items ≤ params j.parts.items + 1 = omega (arith, ap params e.parts, params-reverse k.parts.items, params-reverse j.parts.items) in
    record {
      ruled = c.in_ok-start.ensures.ranks.ruled;
      left = outer-ranked c.args.rules.now (reverse o.marks.items) (reverse o.parts.items) (reverse o.args.items) (arity [] c.args.label) can (reverse j.marks.items) (reverse j.parts.items) x.behind x.holds c.args.digram c.args.label c.args.root c.requires.place exposed
          refl e.marks.0 (reverse k.marks.items) e.marks.1 e.marks.5 (params o.parts.items) (params j.parts.items) (params k.parts.items) (params-reverse o.parts.items) (params-reverse j.parts.items) few;
    }

pub returns-clause-ranks : goal.returns-clause-ranks
returns-clause-ranks c = record { ruled = omega arith; left = inl (omega (arith, c.in_ok-add_inner.ensures.ranks)) }
