-- Sums of the first weights, and of those of some kids.
use Rattle.std.proofs.Common.{◌≡◌, ℕ, zero, suc, ◌+◌, ◌-◌, ◌^◌, ◌<◌, ◌≤◌, List, [], ◌∷◌, ◌++◌, length, get_or, take, drop, refl, ap, sym, ◌∙◌, arith, Some, sum_by, subst}
use Rattle.std.specs.Prelude.{slice_get, sum}
use Rattle.std.proofs.lemmas.List.{take-take}
use Rattle.std.proofs.lemmas.Option.{same_Some}
use Rattle.std.proofs.lemmas.List.Sums.{sum_by-cons}
use Rattle.rule_arena.specs.Terms.{Node}
use Rattle.rule_arena.specs.declared.key.Key.{Key}
use Rattle.rule_arena.specs.declared.label.Label.{Label}
use Rattle.rule_arena.specs.declared.label.Label.TheVariants.{Bottom, Symbol, Call, Param}
use Rattle.slt_grammar.specs.Bodies.{params}
use Rattle.slt_grammar.specs.Grammars.{value_at}
use Rattle.slt_grammar.specs.Keyed.{Keyed, IsKeyed, nodes_at, rules_of}
use Rattle.slt_grammar.specs.Segments.{preorder}
use Rattle.slt_grammar.specs.declared.rules.Rule.{Rule}
use Rattle.slt_grammar.proofs.KeyedLemmas.{length-rules_of}
use Rattle.slt_grammar.proofs.Meanings.{params-append}
use Rattle.slt_grammar.proofs.Spreads.{IsPlain}
use Rattle.slt_grammar.proofs.TourLemmas.{params-preorder}
use Rattle.slt_grammar.proofs.TourWalking.{node-key}
use Rattle.segment_counts.specs.Counting.{CountTable}
use Rattle.segment_counts.specs.Weights.{all_weight, node_weight}
use Rattle.segment_counts.specs.declared.counts.Measure.TheVariants as measure
use Rattle.segment_counts.proofs.Changed.{all-closed}
use Rattle.preorder_address.specs.Numberings.{AreCountsOf}
use Rattle.preorder_address.specs.Ranges.{WeighsRange, term_params}
use Rattle.preorder_address.specs.Sites.{laden, labels_before, term_weights}
use Rattle.preorder_address.specs.Weighing.{params_at}
use Rattle.preorder_address.specs.declared.spot_extent.KidRange.{KidRange}
use Rattle.preorder_address.specs.declared.spot_extent.RangeWeight.{RangeWeight}
use Rattle.preorder_address.proofs.KidRanges.{params-within, range-apart, sum-none}
use Rattle.preorder_address.proofs.KidWalking.{is-node}
use Rattle.preorder_address.proofs.KidWeighing.{drop-twice, no_weights, sums-apart}
use Rattle.preorder_address.proofs.Lading.{laden-alike}
use Rattle.preorder_address.proofs.Sited.{laden-alone, zeros-none}
use Rattle.preorder_address.proofs.Listings.{weave}
use Rattle.preorder_address.proofs.Siting.{kid-args, kids-within, kids_at, value-here}

abbrev pub one_weights : List ℕ
one_weights = 1 ∷ 1 ∷ 1 ∷ 1 ∷ 1 ∷ 1 ∷ 1 ∷ 1 ∷ []

-- what is no parameter
pub plain-at : (l : Label) → params_at l ≡ 0 → IsPlain l
plain-at Bottom e = tt
plain-at (Symbol f) e = tt
plain-at (Call q) e = tt
plain-at Param e = omega (arith, e)

pub take-more : (k : ℕ) (us : List ℕ) → sum (take (k + 1) us) ≡ sum (take k us) + get_or us k 0
take-more k [] = let z : k + 1 ≡ suc k = omega arith in omega (arith, ap (λ (i : ℕ). sum (take i [])) z, sum-none k, sum-none (suc k))
take-more zero (u ∷ us) = omega (arith, sum_by-cons (λ (x : ℕ). x) u [])
take-more (suc k) (u ∷ us) =
    let z : suc k + 1 ≡ suc (k + 1) = omega arith in
    omega (arith, ap (λ (i : ℕ). sum (take i (u ∷ us))) z, sum_by-cons (λ (x : ℕ). x) u (take (k + 1) us), sum_by-cons (λ (x : ℕ). x) u (take k us), take-more k us)

pub take-under : (k n : ℕ) (us : List ℕ) → k ≤ n → sum (take k us) ≤ sum (take n us)
take-under k n us h =
    let z : k + (n - k) ≡ n = omega (arith, h) in
    omega (arith, sums-apart k (n - k) us, ap (λ i. sum (take i us)) z)

-- lists that begin alike
pub sums-alike : (k : ℕ) (us vs : List ℕ) → ((j : ℕ) → j < k → get_or us j 0 ≡ get_or vs j 0) → sum (take k us) ≡ sum (take k vs)
sums-alike zero us vs h = refl
sums-alike (suc k) us vs h =
    let z : suc k ≡ k + 1 = omega arith in
    omega (
      arith,
      ap (λ i. sum (take i us)) z,
      ap (λ i. sum (take i vs)) z,
      take-more k us,
      take-more k vs,
      sums-alike k us vs (λ j l. h j (omega (arith, l))),
      h k (omega arith),
    )

zeros-sum : (n : ℕ) → sum (take n no_weights) ≡ 0
zeros-sum zero = refl
zeros-sum (suc zero) = refl
zeros-sum (suc (suc zero)) = refl
zeros-sum (suc (suc (suc zero))) = refl
zeros-sum (suc (suc (suc (suc zero)))) = refl
zeros-sum (suc (suc (suc (suc (suc zero))))) = refl
zeros-sum (suc (suc (suc (suc (suc (suc zero)))))) = refl
zeros-sum (suc (suc (suc (suc (suc (suc (suc zero))))))) = refl
zeros-sum (suc (suc (suc (suc (suc (suc (suc (suc n)))))))) = sum-none n

ones-sum : (n : ℕ) → n ≤ 8 → sum (take n one_weights) ≡ n
ones-sum zero h = refl
ones-sum (suc zero) h = refl
ones-sum (suc (suc zero)) h = refl
ones-sum (suc (suc (suc zero))) h = refl
ones-sum (suc (suc (suc (suc zero)))) h = refl
ones-sum (suc (suc (suc (suc (suc zero))))) h = refl
ones-sum (suc (suc (suc (suc (suc (suc zero)))))) h = refl
ones-sum (suc (suc (suc (suc (suc (suc (suc zero))))))) h = refl
ones-sum (suc (suc (suc (suc (suc (suc (suc (suc zero)))))))) h = refl
ones-sum (suc (suc (suc (suc (suc (suc (suc (suc (suc n))))))))) h = absurd (omega (arith, h))

-- so many nodes and parameters fit where the nodes and bottoms do
pub nodes-small : (G : List Rule) (C : CountTable) → AreCountsOf G C → (r : ℕ) → r < length G → params (preorder G r) ≤ 8 → sum_by node_weight (preorder G r) + 8 < 2 ^ 64
nodes-small G C a r h p =
    let s = a.1.numbers.small measure.All r h in
    let t : sum_by all_weight (preorder G r) < 2 ^ 64 = s in
    omega (arith, t, p, all-closed (value_at G r) [])

module _ (g : Keyed) (K : IsKeyed g) (r p : ℕ) (x : Node) (e : slice_get (nodes_at g.rules r) p ≡ Some x) (plain : params_at x.label ≡ 0) where
  abbrev H : List Rule
  H = rules_of g.rules

  abbrev behind : List Node
  behind = drop (p + 1) (nodes_at g.rules r)

  -- how many nodes the first kids have alone, and how many parameters
  abbrev pub own : ℕ → ℕ
  own c = sum (take c (term_weights node_weight (rules_of g.rules) [] (drop (p + 1) (nodes_at g.rules r))))

  abbrev pub spots : ℕ → ℕ
  spots c = sum (take c (term_params (drop (p + 1) (nodes_at g.rules r))))

  rule-there : r < length H
  rule-there = omega (arith, (is-node g K r p x e).rule, length-rules_of g.rules)

  rank-few : params (preorder H r) ≤ 8
  rank-few = omega (arith, params-preorder H r K.grammar rule-there, (K.grammar.each r rule-there).shaped.small)

  spots-within : params (labels_before g.rules r p) + spots x.kids ≤ params (preorder H r)
  spots-within = params-within g K r p x e (plain-at x.label plain)

  spots-few : (c : ℕ) → c ≤ x.kids → spots c ≤ 8
  spots-few c h = omega (arith, take-under c x.kids (term_params behind) h, spots-within, rank-few)

  own-within : own x.kids ≤ sum_by node_weight (preorder H r)
  own-within =
      omega (
        arith,
        kids-within g K node_weight refl r [] p x e (plain-at x.label plain),
        ap sum (kid-args g K node_weight refl r [] p x e),
        range-apart g K r p x e node_weight x.kids (drop (params (labels_before g.rules r p)) []) (omega arith),
        laden-alone node_weight refl (preorder H r),
      )

  pub alone : (c : ℕ) → c ≤ x.kids → sum (take c (term_weights node_weight (rules_of g.rules) no_weights (drop (p + 1) (nodes_at g.rules r)))) ≡ own c
  alone c h = omega (arith, range-apart g K r p x e node_weight c no_weights h, zeros-sum (spots c))

  pub counted : (c : ℕ) → c ≤ x.kids → sum (take c (term_weights node_weight (rules_of g.rules) one_weights (drop (p + 1) (nodes_at g.rules r)))) ≡ own c + spots c
  counted c h = omega (arith, range-apart g K r p x e node_weight c one_weights h, ones-sum (spots c) (spots-few c h))

  module _ (C : CountTable) (a : AreCountsOf (rules_of g.rules) C) where
    pub counted-small : own x.kids + spots x.kids < 2 ^ 64
    counted-small = omega (arith, own-within, spots-few x.kids (omega arith), nodes-small H C a r rule-there rank-few)

    pub own-small : (c : ℕ) → c ≤ x.kids → own c + spots c < 2 ^ 64
    own-small c h = omega (arith, counted-small, take-under c x.kids (term_weights node_weight H [] behind) h, take-under c x.kids (term_params behind) h)

  pub own-under : (b c : ℕ) → b ≤ c → own b ≤ own c
  own-under b c h = take-under b c (term_weights node_weight H [] behind) h

  pub spots-under : (b c : ℕ) → b ≤ c → spots b ≤ spots c
  spots-under b c h = take-under b c (term_params behind) h

  pub spots-small : (c : ℕ) → c ≤ x.kids → spots c ≤ 8
  spots-small = spots-few

  -- a rule without parameters has none there
  pub no-spots : params (preorder (rules_of g.rules) r) ≡ 0 → (c : ℕ) → c ≤ x.kids → spots c ≡ 0
  no-spots z c h = omega (arith, spots-within, z, take-under c x.kids (term_params behind) h)

  -- the sums of the first weights that were read
  pub weights-sum : (ws : List ℕ) (limit : ℕ) → limit ≤ x.kids → ((j : ℕ) → (limit ≤ j → x.kids ≤ j) → get_or ws j 0 ≡ get_or (take x.kids (term_weights node_weight (rules_of g.rules) no_weights (drop (p + 1) (nodes_at g.rules r)))) j 0)
      → (c : ℕ) → c ≤ limit → sum (take c ws) ≡ own c
  weights-sum ws limit k alike c h =
      sums-alike c ws (take x.kids (term_weights node_weight H no_weights behind)) (λ j l. alike j (λ m. absurd (omega (arith, m, l, h)))) ∙ ap sum (take-take c x.kids (term_weights node_weight H no_weights behind) (omega (arith, h, k))) ∙ alone c (omega (arith, h, k))

  pub counted-sum : (ws : List ℕ) (limit : ℕ) → limit ≤ x.kids → ((j : ℕ) → (limit ≤ j → x.kids ≤ j) → get_or ws j 0 ≡ get_or (take x.kids (term_weights node_weight (rules_of g.rules) one_weights (drop (p + 1) (nodes_at g.rules r)))) j 0)
      → (c : ℕ) → c ≤ limit → sum (take c ws) ≡ own c + spots c
  counted-sum ws limit k alike c h =
      sums-alike c ws (take x.kids (term_weights node_weight H one_weights behind)) (λ j l. alike j (λ m. absurd (omega (arith, m, l, h)))) ∙ ap sum (take-take c x.kids (term_weights node_weight H one_weights behind) (omega (arith, h, k))) ∙ counted c (omega (arith, h, k))

  -- the range by the sums of the first kids
  module _ (range : KidRange) (few : range.first + range.count ≤ x.kids) (before : ℕ) (is_before : before ≡ params (labels_before g.rules r p)) (found : RangeWeight)
      (nodes_are : found.nodes ≡ own (range.first + range.count) - own range.first) (first_is : found.params.first ≡ before + spots range.first) (count_is : found.params.count ≡ spots (range.first + range.count) - spots range.first) where
    abbrev args_at : List ℕ → List ℕ
    args_at args = drop (params (labels_before g.rules r p)) args

    -- the first kids with the arguments
    with-args : (args : List ℕ) (c : ℕ) → c ≤ x.kids → sum (take c (take x.kids (term_weights node_weight H (args_at args) behind))) ≡ own c + sum (take (spots c) (args_at args))
    with-args args c h = ap sum (take-take c x.kids (term_weights node_weight H (args_at args) behind) h) ∙ range-apart g K r p x e node_weight c (args_at args) h

    pub weighs-range : WeighsRange g.rules r p x range found
    weighs-range = record {
      weighs = λ args.
          let f = range.first in
          let z : spots f + (spots (f + range.count) - spots f) ≡ spots (f + range.count) = omega (arith, take-under f (f + range.count) (term_params behind) (omega arith)) in
          let d : drop (spots f) (args_at args) ≡ drop found.params.first args = drop-twice (params (labels_before g.rules r p)) (spots f) args ∙ ap (λ i. drop i args) (ap (λ i. i + spots f) (sym is_before) ∙ sym first_is) in
          omega (
            arith,
            sums-apart f range.count (take x.kids (term_weights node_weight H (args_at args) behind)),
            with-args args f (omega (arith, few)),
            with-args args (f + range.count) few,
            nodes_are,
            sums-apart (spots f) (spots (f + range.count) - spots f) (args_at args),
            ap (λ i. sum (take i (args_at args))) z,
            ap (λ us. sum (take (spots (f + range.count) - spots f) us)) d,
            ap (λ i. sum (take i (drop found.params.first args))) count_is,
            take-under f (f + range.count) (term_weights node_weight H [] behind) (omega arith),
          );
      within = omega (
        arith,
        first_is,
        count_is,
        is_before,
        spots-within,
        take-under (range.first + range.count) x.kids (term_params behind) few,
        take-under range.first (range.first + range.count) (term_params behind) (omega arith),
      );
    }

-- what holds of a node with a key holds wherever the key is
pub same-node : (g : Keyed) → IsKeyed g → (key : Key) (r p : ℕ) (x : Node) → slice_get (nodes_at g.rules r) p ≡ Some x → x.key ≡ key → (P : ℕ → ℕ → Node → Type 0) → P r p x
    → (q s : ℕ) (y : Node) → slice_get (nodes_at g.rules q) s ≡ Some y → y.key ≡ key → P q s y
same-node g K key r p x e k P h q s y f j =
    let z = K.once key r p q s (node-key (nodes_at g.rules r) p x e ∙ ap Some k) (node-key (nodes_at g.rules q) s y f ∙ ap Some j) in
    let o : Some x ≡ Some y = sym e ∙ ap (λ i. slice_get (nodes_at g.rules i) p) z.0 ∙ ap (slice_get (nodes_at g.rules q)) z.1 ∙ f in
    let n : x ≡ y = same_Some x y o in
    subst (λ (i : ℕ). P i s y) z.0 (subst (λ (i : ℕ). P r i y) z.1 (subst (λ (v : Node). P r p v) n h))

-- no parameters stand before a node of a rule that has none
pub none-before : (g : Keyed) → IsKeyed g → (r p : ℕ) (x : Node) → slice_get (nodes_at g.rules r) p ≡ Some x → params (preorder (rules_of g.rules) r) ≡ 0 → params (labels_before g.rules r p) ≡ 0
none-before g K r p x e z =
    let v = value-here g K node_weight refl r [] p x e in
    omega (arith, z, ap params v.1, params-append (labels_before g.rules r p) (weave (rules_of g.rules) x.label 0 (kids_at g K node_weight refl r [] p x e) ++ v.0))

-- a rule's value with arguments that have no nodes
pub laden-small : (G : List Rule) (C : CountTable) → AreCountsOf G C → (r : ℕ) → r < length G → laden node_weight no_weights (preorder G r) < 2 ^ 64
laden-small G C a r h = omega (arith, laden-alike node_weight no_weights [] zeros-none (preorder G r), laden-alone node_weight refl (preorder G r), a.1.numbers.small measure.Nodes r h)
