-- The labels of each term of a body once its calls are replaced, and where along the tour the parts of a node stand in them.
use Rattle.std.proofs.Common.{◌≡◌, ℕ, zero, suc, ◌+◌, ◌<◌, ◌≤◌, List, [], ◌∷◌, ◌++◌, length, get_or, take, drop, refl, ap, sym, ◌∙◌, arith, append_assoc, append-nil, length-append, length-drop, Some, subst}
use Rattle.std.specs.Prelude.{slice_get}
use Rattle.rule_arena.specs.Preorder.{AreTerms}
use Rattle.rule_arena.specs.Terms.{Node, kids_of}
use Rattle.rule_arena.specs.declared.label.Label.{Label}
use Rattle.slt_grammar.specs.Segments.{part_of}
use Rattle.slt_grammar.specs.Tours.{Stop, stop, opened_kids, once_closed, entered, tour}
use Rattle.slt_grammar.specs.declared.rules.Rule.{Rule}
use Rattle.slt_grammar.proofs.TourLemmas.{spread_nodes}
use Rattle.preorder_address.specs.Sites.{stops_before}

pub length-opened : (x : Node) (i n : ℕ) (a : List (Stop Node)) → length (opened_kids x i n a) ≡ n
length-opened x i zero a = refl
length-opened x i (suc zero) a = refl
length-opened x i (suc (suc n)) a = ap suc (length-opened x (suc i) (suc n) a)

-- the tour from the node at a place on
pub record TourAt (afters : List (List (Stop Node))) (xs : List Node) (p : ℕ) : Type 0 where
  pub later : List (List (Stop Node))
  pub count : ℕ
  pub split : tour kids_of afters xs ≡ stops_before afters xs p ++ tour kids_of later (drop p xs)
  pub terms : AreTerms kids_of count (drop p xs)
  pub each : length later ≡ count

pub tour-at : (n : ℕ) (afters : List (List (Stop Node))) (xs : List Node) (p : ℕ) → AreTerms kids_of n xs → length afters ≡ n → p < length xs → TourAt afters xs p
tour-at n afters [] p t e h = absurd (omega arith)
tour-at n afters (x ∷ xs) zero t e h = record { later = afters; count = n; split = refl; terms = t; each = e }
tour-at zero afters (x ∷ xs) (suc p) t e h = absurd t
tour-at (suc n) [] (x ∷ xs) (suc p) t e h = absurd (omega arith)
tour-at (suc n) (a ∷ behind) (x ∷ xs) (suc p) t e h =
    let r = tour-at (x.kids + n) (opened_kids x 1 x.kids a ++ behind) xs p t (omega (arith, length-append (opened_kids x 1 x.kids a) behind, length-opened x 1 x.kids a)) (omega arith) in
    record {
      later = r.later;
      count = r.count;
      split = ap (λ ms. stop x 0 ∷ ms) (ap (λ ms. once_closed x.kids a ++ ms) r.split ∙ sym (append_assoc (once_closed x.kids a) (stops_before (opened_kids x 1 x.kids a ++ behind) xs p) (tour kids_of r.later (drop p xs))));
      terms = r.terms;
      each = r.each;
    }

module _ (G : List Rule) where
  pub spread-nodes-append : (ms ns : List (Stop Node)) → spread_nodes G (ms ++ ns) ≡ spread_nodes G ms ++ spread_nodes G ns
  spread-nodes-append [] ns = refl
  spread-nodes-append (m ∷ ms) ns = ap (λ x. part_of G m.item.label m.part ++ x) (spread-nodes-append ms ns) ∙ sym (append_assoc (part_of G m.item.label m.part) (spread_nodes G ms) (spread_nodes G ns))

  -- the parts of a node from part i on, around its kids
  abbrev pub weave : Label → ℕ → List (List Label) → List Label
  weave l i [] = part_of G l i
  weave l i (c ∷ cs) = part_of G l i ++ (c ++ weave l (suc i) cs)

  -- what is behind part i
  abbrev ahead : Label → ℕ → List (List Label) → List Label
  ahead l i [] = []
  ahead l i (c ∷ cs) = c ++ weave l (suc i) cs

  weave-ahead : (l : Label) (i : ℕ) (cs : List (List Label)) → weave l i cs ≡ part_of G l i ++ ahead l i cs
  weave-ahead l i [] = sym (append-nil (part_of G l i))
  weave-ahead l i (c ∷ cs) = refl

  -- the parts and kids of a node before part i
  abbrev pub fronts : Label → List (List Label) → ℕ → List Label
  fronts l cs zero = []
  fronts l cs (suc i) = fronts l cs i ++ (part_of G l i ++ get_or cs i [])

  -- the labels of terms, one term after another
  abbrev pub listings : List Node → List (List Label)
  listings [] = []
  listings (x ∷ xs) = weave x.label 0 (take x.kids (listings xs)) ∷ drop x.kids (listings xs)

  pub length-listings : (n : ℕ) (xs : List Node) → AreTerms kids_of n xs → length (listings xs) ≡ n
  length-listings zero [] t = refl
  length-listings zero (x ∷ xs) t = absurd t
  length-listings (suc n) [] t = absurd t
  length-listings (suc n) (x ∷ xs) t = omega (arith, length-listings (x.kids + n) xs t, length-drop x.kids (listings xs))

  -- terms with what comes behind each of them
  abbrev pub strung : List (List Label) → List (List (Stop Node)) → List Label
  strung [] afters = []
  strung (t ∷ ts) afters = t ++ (spread_nodes G (get_or afters 0 []) ++ strung ts (drop 1 afters))

  strung-opened : (x : Node) (i n : ℕ) (cs : List (List Label)) (a : List (Stop Node)) (bs : List (List (Stop Node))) → n ≤ length cs
      → part_of G x.label i ++ (spread_nodes G (once_closed n a) ++ strung cs (opened_kids x (suc i) n a ++ bs)) ≡ weave x.label i (take n cs) ++ (spread_nodes G a ++ strung (drop n cs) bs)
  strung-opened x i zero cs a bs h = refl
  strung-opened x i (suc n) [] a bs h = absurd (omega arith)
  strung-opened x i (suc zero) (c ∷ cs) a bs h = simp append_assoc
  strung-opened x i (suc (suc n)) (c ∷ cs) a bs h =
      let ih = strung-opened x (suc i) (suc n) cs a bs (omega arith) in
      let e : part_of G x.label i ++ (c ++ (part_of G x.label (suc i) ++ strung cs (opened_kids x (suc (suc i)) (suc n) a ++ bs))) ≡ part_of G x.label i ++ (c ++ (weave x.label (suc i) (take (suc n) cs) ++ (spread_nodes G a ++ strung (drop (suc n) cs) bs))) =
      ap (λ ls. part_of G x.label i ++ (c ++ ls)) ih in
      ap (λ ls. part_of G x.label i ++ (c ++ (ls ++ strung cs (opened_kids x (suc (suc i)) (suc n) a ++ bs)))) (append-nil (part_of G x.label (suc i))) ∙ e ∙ simp append_assoc

  -- a tour stands for the labels of its terms, with what comes behind each of them
  pub spread-listings : (n : ℕ) (afters : List (List (Stop Node))) (xs : List Node) → AreTerms kids_of n xs → spread_nodes G (tour kids_of afters xs) ≡ strung (listings xs) afters
  spread-listings n afters [] t = refl
  spread-listings zero afters (x ∷ xs) t = absurd t
  spread-listings (suc n) afters (x ∷ xs) t =
      let a = get_or afters 0 [] in
      let later = opened_kids x 1 x.kids a ++ drop 1 afters in
      ap (λ ls. part_of G x.label 0 ++ ls) (spread-nodes-append (once_closed x.kids a) (tour kids_of later xs) ∙ ap (λ ls. spread_nodes G (once_closed x.kids a) ++ ls) (spread-listings (x.kids + n) later xs t))
      ∙ strung-opened x 0 x.kids (listings xs) a (drop 1 afters) (omega (arith, length-listings (x.kids + n) xs t))

  module _ (all : List Node) (base : ℕ → List Label) (kids : ℕ → List (List Label)) where
    -- before the stop stand these labels: those before its node, and the node's parts and kids before the stop's part
    abbrev pub IsPlaced : List Label → Stop Node → Type 0
    IsPlaced b m = (p : ℕ) × (slice_get all p ≡ Some m.item) × (b ≡ base p ++ fronts m.item.label (kids p) m.part)

    abbrev pub ArePlaced : List Label → List (Stop Node) → Type 0
    ArePlaced b [] = Unit {0}
    ArePlaced b (m ∷ ms) = IsPlaced b m × ArePlaced (b ++ part_of G m.item.label m.part) ms

    placed-append : (b : List Label) (ms ns : List (Stop Node)) → ArePlaced b ms → ArePlaced (b ++ spread_nodes G ms) ns → ArePlaced b (ms ++ ns)
    placed-append b [] ns p q = subst (λ (ls : List Label). ArePlaced ls ns) (append-nil b) q
    placed-append b (m ∷ ms) ns p q =
        (p.0, placed-append (b ++ part_of G m.item.label m.part) ms ns p.1 (subst (λ (ls : List Label). ArePlaced ls ns) (sym (append_assoc b (part_of G m.item.label m.part) (spread_nodes G ms))) q))

    -- and so are the stops behind each of these terms
    abbrev pub AreAllPlaced : List Label → List (List Label) → List (List (Stop Node)) → Type 0
    AreAllPlaced b [] [] = Unit {0}
    AreAllPlaced b [] (a ∷ behind) = ⊥
    AreAllPlaced b (t ∷ ts) [] = ⊥
    AreAllPlaced b (t ∷ ts) (a ∷ behind) = ArePlaced (b ++ t) a × AreAllPlaced ((b ++ t) ++ spread_nodes G a) ts behind

    module _ (here : ℕ) (x : Node) (is_here : slice_get all here ≡ Some x) where
      is-placed-next : (i : ℕ) (b c : List Label) → b ≡ base here ++ (fronts x.label (kids here) i ++ part_of G x.label i) → get_or (kids here) i [] ≡ c → IsPlaced (b ++ c) (stop x (suc i))
      is-placed-next i b c e d =
          (here, is_here, ap (λ ls. ls ++ c) e ∙ sym (ap (λ k. base here ++ (fronts x.label (kids here) i ++ (part_of G x.label i ++ k))) d ∙ regroup))
        where
          regroup : base here ++ (fronts x.label (kids here) i ++ (part_of G x.label i ++ c)) ≡ (base here ++ (fronts x.label (kids here) i ++ part_of G x.label i)) ++ c
          regroup = simp append_assoc

      opened-placed : (n i : ℕ) (b whole : List Label) (cs : List (List Label)) (a : List (Stop Node)) (behind : List (List (Stop Node))) → 0 < n → n ≤ length cs
          → b ≡ base here ++ (fronts x.label (kids here) i ++ part_of G x.label i) → ((j : ℕ) → get_or (kids here) (i + j) [] ≡ get_or cs j [])
          → b ++ ahead x.label i (take n cs) ≡ whole → ArePlaced whole a → AreAllPlaced (whole ++ spread_nodes G a) (drop n cs) behind
          → AreAllPlaced b cs (opened_kids x (suc i) n a ++ behind)
      unfolding is-placed-next
      opened-placed zero i b whole cs a behind z h e k w pa pr = absurd (omega arith)
      opened-placed (suc n) i b whole [] a behind z h e k w pa pr = absurd (omega arith)
      opened-placed (suc zero) i b whole (c ∷ cs) a behind z h e k w pa pr =
          let j : i ≡ i + 0 = omega arith in
          let v : whole ≡ (b ++ c) ++ part_of G x.label (suc i) = sym w ∙ sym (append_assoc b c (part_of G x.label (suc i))) in (
            (is-placed-next i b c e (ap (λ q. get_or (kids here) q []) j ∙ k 0), subst (λ (ls : List Label). ArePlaced ls a) v pa),
            subst (λ (ls : List Label). AreAllPlaced ls cs behind) (ap (λ ls. ls ++ spread_nodes G a) v ∙ append_assoc (b ++ c) (part_of G x.label (suc i)) (spread_nodes G a)) pr,
          )
      opened-placed (suc (suc n)) i b whole (c ∷ cs) a behind z h e k w pa pr =
          let j : i ≡ i + 0 = omega arith in
          let here_kid = ap (λ q. get_or (kids here) q []) j ∙ k 0 in
          let p = is-placed-next i b c e here_kid in
          let b' : List Label = (b ++ c) ++ (part_of G x.label (suc i) ++ []) in
          let e' : b' ≡ base here ++ (fronts x.label (kids here) (suc i) ++ part_of G x.label (suc i)) =
          ap (λ ls. (b ++ c) ++ ls) (append-nil (part_of G x.label (suc i))) ∙ ap (λ ls. ls ++ part_of G x.label (suc i)) p.2 ∙ append_assoc (base here) (fronts x.label (kids here) (suc i)) (part_of G x.label (suc i)) in
          let w' : b' ++ ahead x.label (suc i) (take (suc n) cs) ≡ whole =
          ap (λ ls. ((b ++ c) ++ ls) ++ ahead x.label (suc i) (take (suc n) cs)) (append-nil (part_of G x.label (suc i))) ∙ regroup b c (part_of G x.label (suc i)) (ahead x.label (suc i) (take (suc n) cs))
          ∙ ap (λ ls. b ++ (c ++ ls)) (sym (weave-ahead x.label (suc i) (take (suc n) cs))) ∙ w in
          ((p, tt), opened-placed (suc n) (suc i) b' whole cs a behind (omega arith) (omega arith) e' (λ q. let s : suc i + q ≡ i + suc q = omega arith in ap (λ r. get_or (kids here) r []) s ∙ k (suc q)) w' pa pr)
        where
          regroup : (b c p t : List Label) → ((b ++ c) ++ p) ++ t ≡ b ++ (c ++ (p ++ t))
          regroup b c p t = simp append_assoc

      -- a node's own stop, and those behind it
      step-placed : (k n : ℕ) (b : List Label) (xs : List Node) (a : List (Stop Node)) (behind : List (List (Stop Node))) → AreTerms kids_of (k + n) xs → b ≡ base here → kids here ≡ listings xs
          → ArePlaced (b ++ weave x.label 0 (take k (listings xs))) a → AreAllPlaced ((b ++ weave x.label 0 (take k (listings xs))) ++ spread_nodes G a) (drop k (listings xs)) behind
          → ((c : List Label) (later : List (List (Stop Node))) → c ≡ (b ++ part_of G x.label 0) ++ spread_nodes G (once_closed k a) → later ≡ opened_kids x 1 k a ++ behind → AreAllPlaced c (listings xs) later → ArePlaced c (tour kids_of later xs))
          → ArePlaced (b ++ part_of G x.label 0) (once_closed k a ++ tour kids_of (opened_kids x 1 k a ++ behind) xs)
      step-placed zero n b xs a behind t e d pa pr ih = placed-append (b ++ part_of G x.label 0) a (tour kids_of behind xs) pa (ih ((b ++ part_of G x.label 0) ++ spread_nodes G a) behind refl refl pr)
      step-placed (suc k) n b xs a behind t e d pa pr ih =
          let cs = listings xs in
          let w : (b ++ part_of G x.label 0) ++ ahead x.label 0 (take (suc k) cs) ≡ b ++ weave x.label 0 (take (suc k) cs) =
          append_assoc b (part_of G x.label 0) (ahead x.label 0 (take (suc k) cs)) ∙ ap (λ ls. b ++ ls) (sym (weave-ahead x.label 0 (take (suc k) cs))) in
          ih (b ++ part_of G x.label 0) (opened_kids x 1 (suc k) a ++ behind) (sym (append-nil (b ++ part_of G x.label 0))) refl
          (opened-placed (suc k) 0 (b ++ part_of G x.label 0) (b ++ weave x.label 0 (take (suc k) cs)) cs a behind (omega arith) (omega (arith, length-listings (suc k + n) xs t)) (ap (λ ls. ls ++ part_of G x.label 0) e)
          (λ j. let z : 0 + j ≡ j = omega arith in ap (λ q. get_or (kids here) q []) z ∙ ap (λ us. get_or us j []) d) w pa pr)

    -- each stop of a tour is placed
    pub tour-placed : (n here : ℕ) (b : List Label) (afters : List (List (Stop Node))) (xs : List Node) → AreTerms kids_of n xs → ((j : ℕ) → slice_get all (here + j) ≡ slice_get xs j)
        → ((j : ℕ) → base (here + j) ≡ b ++ spread_nodes G (stops_before afters xs j)) → ((j : ℕ) → kids (here + j) ≡ listings (drop (suc j) xs)) → AreAllPlaced b (listings xs) afters
        → ArePlaced b (tour kids_of afters xs)
    tour-placed n here b afters [] t hx hb hk p = tt
    tour-placed zero here b afters (x ∷ xs) t hx hb hk p = absurd t
    tour-placed (suc n) here b [] (x ∷ xs) t hx hb hk p = absurd p
    tour-placed (suc n) here b (a ∷ behind) (x ∷ xs) t hx hb hk p =
        let z : here ≡ here + 0 = omega arith in
        let i : slice_get all here ≡ Some x = ap (slice_get all) z ∙ hx 0 in
        let e : b ≡ base here = sym (ap base z ∙ hb 0 ∙ append-nil b) in
        let d : kids here ≡ listings xs = ap kids z ∙ hk 0 in (
          (here, i, e ∙ sym (append-nil (base here))),
          step-placed here x i x.kids n b xs a behind t e d p.0 p.1
              (λ c later f g q. tour-placed (x.kids + n) (suc here) c later xs t (λ j. let s : suc here + j ≡ here + suc j = omega arith in ap (slice_get all) s ∙ hx (suc j))
              (λ j.
              let s : suc here + j ≡ here + suc j = omega arith in
              ap base s ∙ hb (suc j) ∙ ap (λ ls. b ++ (part_of G x.label 0 ++ ls)) (spread-nodes-append (once_closed x.kids a) (stops_before (opened_kids x 1 x.kids a ++ behind) xs j))
              ∙ regroup b (part_of G x.label 0) (spread_nodes G (once_closed x.kids a)) (spread_nodes G (stops_before (opened_kids x 1 x.kids a ++ behind) xs j))
              ∙ ap (λ ls. ls ++ spread_nodes G (stops_before (opened_kids x 1 x.kids a ++ behind) xs j)) (sym f) ∙ ap (λ ls. c ++ spread_nodes G (stops_before ls xs j)) (sym g))
              (λ j. let s : suc here + j ≡ here + suc j = omega arith in ap kids s ∙ hk (suc j)) q),
        )
      where
        regroup : (b p q r : List Label) → b ++ (p ++ (q ++ r)) ≡ ((b ++ p) ++ q) ++ r
        regroup b p q r = simp append_assoc

drop-at : (xs : List Node) (p : ℕ) (x : Node) → slice_get xs p ≡ Some x → drop p xs ≡ x ∷ drop (suc p) xs
drop-at [] p x e = cc
drop-at (y ∷ xs) zero x e = let f : y ≡ x = cc in ap (λ z. z ∷ xs) f
drop-at (y ∷ xs) (suc p) x e = drop-at xs p x e

within-list : (xs : List Node) (p : ℕ) (x : Node) → slice_get xs p ≡ Some x → p < length xs
within-list [] p x e = cc
within-list (y ∷ xs) zero x e = omega arith
within-list (y ∷ xs) (suc p) x e = omega (arith, within-list xs p x e)

module _ (G : List Rule) (ns : List Node) (t : AreTerms kids_of 1 ns) where
  -- the labels before the node at a place, and those of its kids and of the terms behind them
  abbrev pub before_place : ℕ → List Label
  before_place p = spread_nodes G (stops_before ([] ∷ []) ns p)

  abbrev pub kids_from : ℕ → List (List Label)
  kids_from p = listings G (drop (suc p) ns)

  pub placed-in-tour : (passed rest : List (Stop Node)) (m : Stop Node) → tour kids_of ([] ∷ []) ns ≡ passed ++ m ∷ rest → IsPlaced G ns before_place kids_from (spread_nodes G passed) m
  placed-in-tour passed rest m e = at-split [] passed (subst (λ (ms : List (Stop Node)). ArePlaced G ns before_place kids_from [] ms) e all-placed)
    where
      one : (ts : List (List Label)) → length ts ≡ 1 → AreAllPlaced G ns before_place kids_from [] ts ([] ∷ [])
      one [] n = absurd (omega arith)
      one (u ∷ []) n = (tt, tt)
      one (u ∷ v ∷ ts) n = absurd (omega arith)

      all-placed : ArePlaced G ns before_place kids_from [] (tour kids_of ([] ∷ []) ns)
      all-placed =
          tour-placed G ns before_place kids_from 1 0 [] ([] ∷ []) ns t (λ j. let z : 0 + j ≡ j = omega arith in ap (slice_get ns) z) (λ j. let z : 0 + j ≡ j = omega arith in ap before_place z)
          (λ j. let z : 0 + j ≡ j = omega arith in ap kids_from z) (one (listings G ns) (length-listings G 1 ns t))

      at-split : (b : List Label) (ms : List (Stop Node)) → ArePlaced G ns before_place kids_from b (ms ++ m ∷ rest) → IsPlaced G ns before_place kids_from (b ++ spread_nodes G ms) m
      at-split b [] p = subst (λ (ls : List Label). IsPlaced G ns before_place kids_from ls m) (sym (append-nil b)) p.0
      at-split b (k ∷ ms) p =
          subst (λ (ls : List Label). IsPlaced G ns before_place kids_from ls m) (append_assoc b (part_of G k.item.label k.part) (spread_nodes G ms)) (at-split (b ++ part_of G k.item.label k.part) ms p.1)

  -- the tour comes to each node
  pub tour-comes : (p : ℕ) (x : Node) → slice_get ns p ≡ Some x → (behind : List (Stop Node)) × (tour kids_of ([] ∷ []) ns ≡ stops_before ([] ∷ []) ns p ++ stop x 0 ∷ behind)
  tour-comes p x e =
      let r = tour-at 1 ([] ∷ []) ns p t refl (within-list ns p x e) in
      let d = drop-at ns p x e in
      (once_closed x.kids (get_or r.later 0 []) ++ tour kids_of (entered kids_of x r.later) (drop (suc p) ns), r.split ∙ ap (λ xs. stops_before ([] ∷ []) ns p ++ tour kids_of r.later xs) d)

  -- behind what is before a node stand its parts around its kids
  pub value-at-node : (p : ℕ) (x : Node) → slice_get ns p ≡ Some x → (rest : List Label) × (spread_nodes G (tour kids_of ([] ∷ []) ns) ≡ before_place p ++ (weave G x.label 0 (take x.kids (kids_from p)) ++ rest))
  value-at-node p x e =
      let r = tour-at 1 ([] ∷ []) ns p t refl (within-list ns p x e) in
      let d = drop-at ns p x e in (
        spread_nodes G (get_or r.later 0 []) ++ strung G (drop x.kids (kids_from p)) (drop 1 r.later),
        ap (spread_nodes G) r.split ∙ spread-nodes-append G (stops_before ([] ∷ []) ns p) (tour kids_of r.later (drop p ns))
            ∙ ap (λ ls. before_place p ++ ls) (spread-listings G r.count r.later (drop p ns) r.terms ∙ ap (λ xs. strung G (listings G xs) r.later) d),
      )
