-- Another forest in a node's place keeps every term but the one that it is in.
use Rattle.std.proofs.Common.{◌≡◌, ◌≢◌, ◌⊎◌, inl, inr, ℕ, suc, ◌+◌, ◌-◌, List, ◌∷◌, [], ◌++◌, length, cond, eqb, Option, Some, None, refl, sym, ap, ◌∙◌, subst, arith}
use Rattle.std.proofs.lemmas.Bool.{cases_eq}
use Rattle.slab.specs.Slab.{Slab, get}
use Rattle.rule_arena.specs.declared.key.Key.{Key}
use Rattle.rule_arena.specs.declared.label.Label.{Label}
use Rattle.rule_arena.specs.Linked.{Cell}
use Rattle.rule_arena.specs.Preorder.{subterm, with_subterm}
use Rattle.rule_arena.specs.Terms.{Node, term_at, key_in, kids_of}
use Rattle.rule_arena.specs.Taking.{regrown}
use Rattle.rule_arena.specs.Cutting.{Lacks}
use Rattle.rule_arena.specs.Slots.{Forest, tops, flatten, Lies, Standing, terms_of, RootAt}
use Rattle.rule_arena.specs.OneStanding.{Lies-unique}
use Rattle.rule_arena.specs.Slots.Forest.{End, Grow}
use Rattle.rule_arena.proofs.PathLemmas.{once_in, one_root}
use Rattle.rule_arena.proofs.StandingLemmas.{stands_by, root_below, term_none, term_child, of_root, stand_cases, Below}
use Rattle.rule_arena.proofs.SpliceLemmas.{Inner, inner}
use Rattle.rule_arena.proofs.AddLemmas.{among}
use Rattle.rule_arena.proofs.Swaps.{Tree, nodes_of}
use Rattle.rule_arena.proofs.Parts.{tree_is_term}
use Rattle.rule_arena.proofs.Puts.{put, put-lacks, Puts, count_is, still, RootAt-put}
use Rattle.rule_arena.proofs.Holes.{Hole, hole}
use Rattle.rule_arena.proofs.CellLemmas.{same_cell, clash}
use Rattle.rule_arena.proofs.PreorderLemmas.{subterm-split, with_subterm-split}

pub length-regrown : (ns : List Node) (up : Key) (n : ℕ) → length (regrown ns up n) ≡ length ns
length-regrown [] up n = refl
length-regrown (x ∷ ns) up n = ap suc (length-regrown ns up n)

-- what stays below `a`
lies_below : (H H' : ℕ → Option Cell) (a : Key) (m b : Forest) (up : Key) (place : ℕ) (ks : List Key) → Puts H H' a m b up place ks → Lies H' a 1 b
lies_below H H' a m End up place ks P = tt
lies_below H H' a m (Grow x l f g) up place ks P =
    still H H' a m (Grow x l f g) up place ks P a 1 (Grow x l f g) ((λ e. P.apart (sym e)), inr (λ (e : Grow x l f g ≡ End). cc)) P.b_lies P.b_lacks

record_of : (c : Cell) (o : Option (Key × ℕ)) (ks : List Key) → c.parent ≡ o → c.kids ≡ ks → let d : Cell = record { label = c.label; parent = o; kids = ks } in c ≡ d
record_of c o ks p q = rw (← p, ← q) refl

module _ (slots slots' : Slab Cell) (s : Standing slots) (a : Key) (m b : Forest) (up : Key) (place : ℕ) (ks : List Key) (S : Puts (get slots) (get slots') a m b up place ks) where
  pub freed : RootAt (get slots') a.number (record { key = a; label = S.at.label; kids = length (tops b) } ∷ flatten b)
  freed = record { label = S.at.label; below = b; cell = S.at_is; lies = lies_below (get slots) (get slots') a m b up place ks S; nodes = refl }

  kept : (k : ℕ) (ns : List Node) (Q : RootAt (get slots) k ns) → RootAt (get slots') k (record { key = record { number = k }; label = Q.label; kids = length (tops (put a.number m Q.below)) } ∷ flatten (put a.number m Q.below))
  kept k ns Q = RootAt-put (get slots) (get slots') a m b up place ks S k ns Q

  old_root : (k : ℕ) (c : Cell) → get slots' k ≡ Some c → c.parent ≡ None → k ≢ a.number → (d : Cell) × ((get slots k ≡ Some d) × (d.parent ≡ None))
  old_root k c f g na = elim (cases_eq k up.number) [
    | inl h ↦
        let w : Cell = record { label = S.above.label; parent = S.above.parent; kids = ks } in
        let i : w ≡ c = same_cell w c (get slots' up.number) S.up_is (subst (λ (j : ℕ). get slots' j ≡ Some c) h f) in
        (S.above, (subst (λ (j : ℕ). get slots j ≡ Some S.above) (sym h) S.up_was, ap (λ (x : Cell). x.parent) i ∙ g))
    | inr h ↦ elim (among ks k) [
      | inl z ↦ (c, (sym (S.others k na h z) ∙ f, g))
      | inr z ↦
          let o = S.kid_of z.0 z.1.0 z.1.1.0 in
          let w = S.kid z.0 z.1.0 o.0 z.1.1.0 o.1.1.0 in
          let d : Cell = record { label = o.0.label; parent = Some (up, suc z.0); kids = o.0.kids } in
          absurd (clash c d (get slots' k) (up, suc z.0) f (subst (λ (j : ℕ). get slots' j ≡ Some d) z.1.1.1 w) g refl)
    ]
  ]

  pub standing : Standing slots'
  standing = λ k. stands_by (get slots') k (λ c f g. at_key k c f g (cases_eq k a.number))
    where
      at_key : (k : ℕ) (c : Cell) → get slots' k ≡ Some c → c.parent ≡ None → (k ≡ a.number) ⊎ (k ≢ a.number) → Below (get slots') k c.kids
      at_key k c f g (inl h) =
          let x : Cell = record { label = S.at.label; parent = None; kids = tops b } in
          let i : x ≡ c = same_cell x c (get slots' a.number) S.at_is (subst (λ (j : ℕ). get slots' j ≡ Some c) h f) in
          let B : ℕ → Type 0 = λ j. Below (get slots') j c.kids in
          subst B (sym h) (b, (ap (λ (x : Cell). x.kids) i, lies_below (get slots) (get slots') a m b up place ks S))
      at_key k c f g (inr na) =
          let o = old_root k c f g na in
          let w = root_below slots s k o.0 o.1.0 o.1.1 in
          let d : Cell = record { label = o.0.label; parent = None; kids = tops w.0 } in
          let od : o.0 ≡ d = record_of o.0 None (tops w.0) o.1.1 (sym w.1.0) in
          let Q : RootAt (get slots) k (record { key = record { number = k }; label = o.0.label; kids = length (tops w.0) } ∷ flatten w.0) = record { label = o.0.label; below = w.0; cell = o.1.0 ∙ ap Some od; lies = w.1.1; nodes = refl } in
          let K = kept k _ Q in
          let x : Cell = record { label = K.label; parent = None; kids = tops K.below } in
          let i : x ≡ c = same_cell x c (get slots' k) K.cell f in
          (K.below, (ap (λ (y : Cell). y.kids) i, K.lies))

  pub term_freed : (s' : Standing slots') → term_at (terms_of slots' s') a.number ≡ Some (record { key = a; label = S.at.label; kids = length (tops b) } ∷ flatten b)
  term_freed s' = of_root slots' s' a.number _ freed

  module _ (r : ℕ) (ns : List Node) (p : ℕ) (R : RootAt (get slots) r ns) (e : key_in ns p ≡ Some a) where
    pub I : Inner (get slots) r ns p a
    I = inner (get slots) r ns R p a e S.at (up, place) S.at_was S.at_parent

    one : (q : ℕ) → key_in (flatten I.0.below) q ≡ Some a → q ≡ I.1.0
    one q h =
        let f : key_in ns (suc q) ≡ Some a = subst (λ (ms : List Node). key_in ms (suc q) ≡ Some a) (sym I.0.nodes) h in
        omega (arith, once_in (get slots) r ns R (suc q) p a f e, I.1.1.0)

    pub Q : Hole (get slots) (get slots') a m b up place ks S I.0.below I.1.0
    Q = hole (get slots) (get slots') a m b up place ks S (record { number = r }) 1 I.0.below I.0.lies I.1.0 I.1.1.1 one

    -- what stood at `a`
    pub term_was : (f : Forest) → tops f ≡ S.at.kids → Lies (get slots) a 1 f → subterm kids_of ns p ≡ record { key = a; label = S.at.label; kids = length (tops f) } ∷ flatten f
    term_was f t lies =
        let c : Q.cell ≡ S.at = same_cell Q.cell S.at (get slots a.number) Q.slot S.at_was in
        let g : Q.below ≡ f = Lies-unique (get slots) a 1 Q.below f (sym Q.kids ∙ ap (λ (x : Cell). x.kids) c ∙ sym t) Q.lies lies in
        let n0 : Node = record { key = record { number = r }; label = I.0.label; kids = length (tops I.0.below) } in
        let T : Tree = record { key = a; label = Q.cell.label; below = Q.below } in
        let e1 : ns ≡ (n0 ∷ Q.front) ++ (nodes_of T ++ Q.back) = I.0.nodes ∙ ap (λ (m : List Node). n0 ∷ m) Q.split in
        let l1 : length (n0 ∷ Q.front) ≡ p = ap suc Q.before ∙ sym I.1.1.0 in
        ap (λ (m : List Node). subterm kids_of m p) e1 ∙ subterm-split kids_of (n0 ∷ Q.front) (nodes_of T) Q.back p l1 (tree_is_term T) ∙ same_tree Q.cell.label S.at.label Q.below f (ap (λ (x : Cell). x.label) c) g
      where
        same_tree : (l k : Label) (f g : Forest) → l ≡ k → f ≡ g → (let u : Node = record { key = a; label = l; kids = length (tops f) } in let v : Node = record { key = a; label = k; kids = length (tops g) } in u ∷ flatten f ≡ v ∷ flatten g)
        same_tree l k f g e h = rw (e, h) refl

    pub term_moved : (s' : Standing slots') → term_at (terms_of slots' s') r ≡ Some (with_subterm kids_of (regrown ns up (length (tops m))) p (flatten m))
    term_moved s' =
        let n : ℕ = length (tops m) in
        let n0 : Node = record { key = record { number = r }; label = I.0.label; kids = cond (eqb r up.number) (length (tops I.0.below) + length (tops m) - 1) (length (tops I.0.below)) } in
        let T : Tree = record { key = a; label = Q.cell.label; below = Q.below } in
        let e1 : regrown ns up (length (tops m)) ≡ (n0 ∷ regrown Q.front up (length (tops m))) ++ (nodes_of T ++ Q.back) = ap (λ (ms : List Node). regrown ms up (length (tops m))) I.0.nodes ∙ ap (λ (ms : List Node). n0 ∷ ms) Q.grown in
        let l1 : length (n0 ∷ regrown Q.front up (length (tops m))) ≡ p = ap suc (length-regrown Q.front up (length (tops m)) ∙ Q.before) ∙ sym I.1.1.0 in
        let w = ap (λ (ms : List Node). with_subterm kids_of ms p (flatten m)) e1 ∙ with_subterm-split kids_of (n0 ∷ regrown Q.front up (length (tops m))) (nodes_of T) Q.back (flatten m) p l1 (tree_is_term T) in
        let c = count_is (get slots) (get slots') a m b up place ks S (record { number = r }) I.0.label None I.0.below I.0.cell I.0.lies in
        of_root slots' s' r _ (kept r ns I.0) ∙ ap Some (same_node (record { number = r }) I.0.label _ _ _ _ c Q.filled ∙ sym w)
      where
        same_node : (x : Key) (l : Label) (k j : ℕ) (ns ms : List Node) → j ≡ k → ns ≡ ms → (let u : Node = record { key = x; label = l; kids = j } in let v : Node = record { key = x; label = l; kids = k } in u ∷ ns ≡ v ∷ ms)
        same_node x l k j ns ms e f = rw (e, f) refl

    pub term_other : (s' : Standing slots') (k : ℕ) → k ≢ r → k ≢ a.number → term_at (terms_of slots' s') k ≡ term_at (terms_of slots s) k
    term_other s' k nk na = elim (stand_cases slots s k) [
      | inl h ↦ term_none slots' s' k (not_there h) ∙ sym (term_none slots s k h)
      | inr h ↦ elim h [
        | inl c ↦ child c.0 c.1.0 c.1.1.0 c.1.1.1 ∙ sym (term_child slots s k c.0 c.1.0 c.1.1.0 c.1.1.1)
        | inr Q ↦
            let l : Lacks (flatten Q.1.below) a.number = λ q z. nk (one_root (get slots) k r Q.0 ns Q.1 R (suc q) p a (subst (λ (m : List Node). key_in m (suc q) ≡ Some a) (sym Q.1.nodes) z) e) in
            let x = put-lacks a.number m Q.1.below l in
            of_root slots' s' k _ (kept k Q.0 Q.1) ∙ ap (λ (f : Forest). Some (record { key = record { number = k }; label = Q.1.label; kids = length (tops f) } ∷ flatten f)) x ∙ ap Some (sym Q.1.nodes) ∙ sym (of_root slots s k Q.0 Q.1)
      ]
    ]
      where
        not_there : get slots k ≡ None → get slots' k ≡ None
        not_there h = elim (cases_eq k up.number) [
          | inl i ↦ absurd (let z : None ≡ Some S.above = sym (subst (λ (j : ℕ). get slots j ≡ None) i h) ∙ S.up_was in cc)
          | inr i ↦ elim (among ks k) [
            | inl z ↦ S.others k na i z ∙ h
            | inr z ↦
                let o = S.kid_of z.0 z.1.0 z.1.1.0 in
                absurd (let y : None ≡ Some o.0 = sym h ∙ subst (λ (j : ℕ). get slots j ≡ Some o.0) z.1.1.1 o.1.1.0 in cc)
          ]
        ]

        child : (c : Cell) (u : Key × ℕ) → get slots k ≡ Some c → c.parent ≡ Some u → term_at (terms_of slots' s') k ≡ None
        child c u f g = elim (cases_eq k up.number) [
          | inl i ↦
              let y : S.above ≡ c = same_cell S.above c (get slots up.number) S.up_was (subst (λ (j : ℕ). get slots j ≡ Some c) i f) in
              let d : Cell = record { label = S.above.label; parent = S.above.parent; kids = ks } in
              term_child slots' s' k d u (subst (λ (j : ℕ). get slots' j ≡ Some d) (sym i) S.up_is) (ap (λ (x : Cell). x.parent) y ∙ g)
          | inr i ↦ elim (among ks k) [
            | inl z ↦ term_child slots' s' k c u (S.others k na i z ∙ f) g
            | inr z ↦
                let o = S.kid_of z.0 z.1.0 z.1.1.0 in
                let d : Cell = record { label = o.0.label; parent = Some (up, suc z.0); kids = o.0.kids } in
                term_child slots' s' k d (up, suc z.0) (subst (λ (j : ℕ). get slots' j ≡ Some d) z.1.1.1 (S.kid z.0 z.1.0 o.0 z.1.1.0 o.1.1.0)) refl
          ]
        ]
