use Rattle.std.proofs.Common.{◌≡◌, ◌<◌, ◌+◌, ◌*◌, ◌-◌, ◌^◌, ℕ, zero, suc, List, length, get_or, min, set, refl, sym, ap, subst, ◌∙◌, arith}
use Rattle.std.specs.Prelude.{replicate}
use Rattle.std.proofs.lemmas.List.{length-map, with_items_is, get_or_default}
use Rattle.slt_grammar.specs.Bodies.{calls_in}
use Rattle.slt_grammar.specs.Grammars.{body_at}
use Rattle.slt_grammar.specs.Keyed.{rules_of}
use Rattle.border_repair.proofs.UnderWay.{IsUnderWay, under-way, can-add, next-way}
use Rattle.border_repair.proofs.weights.weigh.Goals as goal

zeros-none : (n q : ℕ) → get_or {A = ℕ} (replicate n 0) q 0 ≡ 0
zeros-none zero q = refl
zeros-none (suc n) zero = refl
zeros-none (suc n) (suc q) = zeros-none n q

zeros-many : (n : ℕ) → length {A = ℕ} (replicate n 0) ≡ n
zeros-many zero = refl
zeros-many (suc n) = ap suc (zeros-many n)

pub downward-init : goal.downward-init
downward-init g c =
    let G = rules_of c.args.grammar.now.rules in
    let zeros : c.in_ok-uses.uses.items ≡ replicate c.rules-rules.result 0 = c.in_ok-uses.ensures.items_if_clones_equal (λ y e. e) in
    let many : length G ≡ length c.args.grammar.now.rules = length-map c.args.grammar.now.rules _ in
    let n : length G ≡ c.rules-rules.result = omega arith in
    subst (λ k. IsUnderWay G c.args.rims.now k (set c.in_ok-uses.uses.items (k - 1) 1) c.args.counts.now.entries) n
    (under-way G c.args.rims.now c.in_ok-uses.uses.items c.args.counts.now.entries c.rules-rules.ensures.grammar c.requires.rims (ap length zeros ∙ zeros-many c.rules-rules.result ∙ sym n)
    (λ q. ap (λ (us : List ℕ). get_or us q 0) zeros ∙ zeros-none c.rules-rules.result q) c.requires.none)

pub add_edges-requires-clause-few : goal.add_edges-requires-clause-few
add_edges-requires-clause-few g c =
    let G = rules_of c.args.grammar.now.rules in
    let w = c.downward.invariant in
    let k : c.downward.left ≡ suc (c.downward.left - 1) = omega arith in
    let l : c.downward.left - 1 < length c.downward.uses.items = omega (arith, w.many, w.within) in
    can-add G c.args.rims.now (c.downward.left - 1) c.downward.uses.items c.downward.counts.entries (subst (λ j. IsUnderWay G c.args.rims.now j c.downward.uses.items c.downward.counts.entries) k w) c.requires.few c.index-times.result.now
    (c.index-times.ensures ∙ get_or_default c.downward.uses.items (c.downward.left - 1) c.index-times.result.now 0 l)

pub downward-preserved : goal.downward-preserved
downward-preserved g c =
    let G = rules_of c.args.grammar.now.rules in
    let w = c.downward.invariant in
    let k : c.downward.left ≡ suc (c.downward.left - 1) = omega arith in
    let l : c.downward.left - 1 < length c.downward.uses.items = omega (arith, w.many, w.within) in
    let slice = c.as_mut_slice.ensures.value in
    let same : length c.add_uses.new.uses ≡ length c.downward.uses.items = c.add_uses.auto.uses ∙ ap length slice in
    let put = with_items_is c.downward.uses c.add_uses.new.uses (same ∙ sym c.downward.uses.ok.0) in
    subst (λ (us : List ℕ). IsUnderWay G c.args.rims.now (c.downward.left - 1) us c.add_edges.new.counts.entries) (sym put)
    (next-way G c.args.rims.now (c.downward.left - 1) c.downward.uses.items c.downward.counts.entries (subst (λ j. IsUnderWay G c.args.rims.now j c.downward.uses.items c.downward.counts.entries) k w) c.requires.few c.index-times.result.now
    (c.index-times.ensures ∙ get_or_default c.downward.uses.items (c.downward.left - 1) c.index-times.result.now 0 l)
    c.add_uses.new.uses c.add_edges.new.counts.entries same
    (λ q m. c.add_uses.ensures q (subst (λ n. q < n) (sym (ap length slice)) m)
    ∙ ap (λ (us : List ℕ). min (get_or us q 0 + c.index-times.result.now * calls_in q (body_at G (c.downward.left - 1))) (2 ^ 64 - 1)) slice)
    c.in_ok-add_edges.ensures)
