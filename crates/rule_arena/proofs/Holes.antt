-- The nodes of a term before and after another forest is put in a node's place.
use Rattle.std.proofs.Common.{◌≡◌, inl, inr, ℕ, zero, suc, ◌+◌, ◌-◌, ◌≤◌, List, [], ◌∷◌, ◌++◌, length, cond, eqb, false, Option, Some, refl, sym, ap, ◌∙◌, subst, arith, length-append, append_assoc}
use Rattle.std.proofs.lemmas.Bool.{eq-eqb}
use Rattle.std.proofs.lemmas.Bool.Decides.{eqb_tells}
use Rattle.rule_arena.specs.declared.label.Label.{Label}
use Rattle.rule_arena.specs.declared.key.Key.{Key}
use Rattle.rule_arena.specs.Linked.{Cell}
use Rattle.rule_arena.specs.Terms.{Node, key_in}
use Rattle.rule_arena.specs.Taking.{regrown}
use Rattle.rule_arena.specs.Cutting.{Lacks}
use Rattle.rule_arena.specs.Slots.{Forest, tops, flatten, Lies}
use Rattle.rule_arena.specs.Slots.Forest.{End, Grow}
use Rattle.rule_arena.proofs.CellLemmas.{key_is}
use Rattle.rule_arena.proofs.PathLemmas.{key_in-append, key_in-left, key_in-right}
use Rattle.rule_arena.proofs.Told.{key_in-below}
use Rattle.rule_arena.proofs.Swaps.{Lacks-left, Lacks-right}
use Rattle.rule_arena.proofs.Puts.{put, flatten-join, put-lacks, Puts, count_is}

pub regrown-append : (xs ys : List Node) (up : Key) (n : ℕ) → regrown (xs ++ ys) up n ≡ regrown xs up n ++ regrown ys up n
regrown-append [] ys up n = refl
regrown-append (x ∷ xs) ys up n =
    let m : Node = record { key = x.key; label = x.label; kids = cond (eqb x.key.number up.number) (x.kids + n - 1) x.kids } in
    ap (λ (ns : List Node). m ∷ ns) (regrown-append xs ys up n)

assoc4 : {X : Type 0} (xs ys zs ws : List X) → (xs ++ (ys ++ zs)) ++ ws ≡ xs ++ (ys ++ (zs ++ ws))
assoc4 xs ys zs ws = append_assoc xs (ys ++ zs) ws ∙ ap (λ us. xs ++ us) (append_assoc ys zs ws)

module _ (H H' : ℕ → Option Cell) (a : Key) (m b : Forest) (up : Key) (place : ℕ) (ks : List Key) (P : Puts H H' a m b up place ks) where
  -- the node `a` with what stands below it, and the nodes before and after
  pub record Hole (f : Forest) (p : ℕ) : Type 0 where
    pub cell : Cell
    pub below : Forest
    pub front : List Node
    pub back : List Node
    pub slot : H a.number ≡ Some cell
    pub kids : cell.kids ≡ tops below
    pub lies : Lies H a 1 below
    pub split : flatten f ≡ front ++ ((record { key = a; label = cell.label; kids = length (tops below) } ∷ flatten below) ++ back)
    pub before : length front ≡ p
    pub filled : flatten (put a.number m f) ≡ regrown front up (length (tops m)) ++ (flatten m ++ back)
    pub grown : regrown (flatten f) up (length (tops m)) ≡ regrown front up (length (tops m)) ++ ((record { key = a; label = cell.label; kids = length (tops below) } ∷ flatten below) ++ back)

  -- a forest without `a` has no node whose children change
  regrown-lacks : (k : Key) (i : ℕ) (f : Forest) → Lies H k i f → Lacks (flatten f) a.number → regrown (flatten f) up (length (tops m)) ≡ flatten f
  regrown-lacks k i End lies h = refl
  regrown-lacks k i (Grow x l f g) lies h =
      let hf = Lacks-left (flatten f) (flatten g) a.number (λ q e. h (suc q) e) in
      let hg = Lacks-right (flatten f) (flatten g) a.number (λ q e. h (suc q) e) in
      let c = count_is H H' a m b up place ks P x l (Some (k, i)) f lies.0 lies.1 in
      let s : put a.number m f ≡ f = put-lacks a.number m f hf in
      let d : length (tops f) ≡ cond (eqb x.number up.number) (length (tops f) + length (tops m) - 1) (length (tops f)) = ap (λ (z : Forest). length (tops z)) (sym s) ∙ c in
      let r = regrown-append (flatten f) (flatten g) up (length (tops m)) ∙ ap (λ (ns : List Node). ns ++ regrown (flatten g) up (length (tops m))) (regrown-lacks x 1 f lies.1 hf) ∙ ap (λ (ns : List Node). flatten f ++ ns) (regrown-lacks k (suc i) g lies.2 hg) in
      node x l (length (tops f)) _ _ _ (sym d) r
    where
      node : (x : Key) (l : Label) (k j : ℕ) (ns ms : List Node) → j ≡ k → ns ≡ ms → (let u : Node = record { key = x; label = l; kids = j } in let v : Node = record { key = x; label = l; kids = k } in u ∷ ns ≡ v ∷ ms)
      node x l k j ns ms e f = rw (e, f) refl

  same_node : (x : Key) (l : Label) (k j : ℕ) (ns ms : List Node) → j ≡ k → ns ≡ ms → (let u : Node = record { key = x; label = l; kids = j } in let v : Node = record { key = x; label = l; kids = k } in u ∷ ns ≡ v ∷ ms)
  same_node x l k j ns ms e f = rw (e, f) refl

  a_not_up : eqb a.number up.number ≡ false
  a_not_up = elim (eqb_tells a.number up.number) [ inl h ↦ absurd (P.apart (sym h.1)) | inr h ↦ h.0 ]

  pub hole : (k : Key) (i : ℕ) (f : Forest) → Lies H k i f → (p : ℕ) → key_in (flatten f) p ≡ Some a → ((q : ℕ) → key_in (flatten f) q ≡ Some a → q ≡ p) → Hole f p
  hole k i End lies p e one = absurd (cc)
  hole k i (Grow x l f g) lies zero e one =
      let h : x ≡ a = cc in
      let lf : Lacks (flatten f) a.number = λ q z. absurd (omega (arith, one (suc q) (key_in-left (flatten f) (flatten g) q _ z))) in
      let lg : Lacks (flatten g) a.number = λ q z. absurd (omega (arith, one (suc (length (flatten f) + q)) (key_in-right (flatten f) (flatten g) q _ z))) in
      let s : put a.number m g ≡ g = put-lacks a.number m g lg in
      let t = eq-eqb x.number a.number (ap (λ (y : Key). y.number) h) in
      let c : Cell = record { label = l; parent = Some (k, i); kids = tops f } in
      let rf = regrown-lacks x 1 f lies.1 lf in
      let rg = regrown-lacks k (suc i) g lies.2 lg in
      let r = regrown-append (flatten f) (flatten g) up (length (tops m)) ∙ ap (λ (ns : List Node). ns ++ regrown (flatten g) up (length (tops m))) rf ∙ ap (λ (ns : List Node). flatten f ++ ns) rg in
      let z : cond (eqb x.number up.number) (length (tops f) + length (tops m) - 1) (length (tops f)) ≡ length (tops f) = rw h (rw a_not_up refl) in
      record {
        cell = c;
        below = f;
        front = [];
        back = flatten g;
        slot = subst (λ (y : Key). H y.number ≡ Some c) h lies.0;
        kids = refl;
        lies = subst (λ (y : Key). Lies H y 1 f) h lies.1;
        split = ap (λ (y : Key). let n : Node = record { key = y; label = l; kids = length (tops f) } in n ∷ (flatten f ++ flatten g)) h;
        before = refl;
        filled = rw (t, s) (flatten-join m g);
        grown = same_node x l _ _ _ _ z r ∙ ap (λ (y : Key). let n : Node = record { key = y; label = l; kids = length (tops f) } in n ∷ (flatten f ++ flatten g)) h;
      }
  hole k i (Grow x l f g) lies (suc p) e one =
      elim (key_in-append (flatten f) (flatten g) p a e) as (λ _. Hole (Grow x l f g) (suc p)) [
        | inl h ↦
            let lg : Lacks (flatten g) a.number = λ q z. absurd (omega (arith, key_in-below (flatten f) p a h, one (suc (length (flatten f) + q)) (key_in-right (flatten f) (flatten g) q _ z))) in
            in_left k i x l f g lies p one lg (hole x 1 f lies.1 p h (λ q z. omega (arith, one (suc q) (key_in-left (flatten f) (flatten g) q a z))))
        | inr h ↦
            let lf : Lacks (flatten f) a.number = λ q z. absurd (omega (arith, h.0, key_in-below (flatten f) q _ z, one (suc q) (key_in-left (flatten f) (flatten g) q _ z))) in
            in_right k i x l f g lies p one lf h.0 (hole k (suc i) g lies.2 (p - length (flatten f)) h.1 (λ q z. omega (arith, h.0, one (suc (length (flatten f) + q)) (key_in-right (flatten f) (flatten g) q a z))))
      ]
    where
      differs : (x : Key) (l : Label) (f g : Forest) (p : ℕ) → ((q : ℕ) → key_in (flatten (Grow x l f g)) q ≡ Some a → q ≡ suc p) → eqb x.number a.number ≡ false
      differs x l f g p one =
          elim (eqb_tells x.number a.number) [
            | inl h ↦ absurd (omega (arith, one 0 (ap Some (key_is x a.number h.1))))
            | inr h ↦ h.0
          ]

      in_left : (k : Key) (i : ℕ) (x : Key) (l : Label) (f g : Forest) → Lies H k i (Grow x l f g) → (p : ℕ) → ((q : ℕ) → key_in (flatten (Grow x l f g)) q ≡ Some a → q ≡ suc p) → Lacks (flatten g) a.number → Hole f p → Hole (Grow x l f g) (suc p)
      in_left k i x l f g lies p one lg Q =
          let n : Node = record { key = x; label = l; kids = length (tops f) } in
          let mid : List Node = record { key = a; label = Q.cell.label; kids = length (tops Q.below) } ∷ flatten Q.below in
          let s : put a.number m g ≡ g = put-lacks a.number m g lg in
          let rg = regrown-lacks k (suc i) g lies.2 lg in
          let c = count_is H H' a m b up place ks P x l (Some (k, i)) f lies.0 lies.1 in
          let d = differs x l f g p one in
          record {
            cell = Q.cell;
            below = Q.below;
            front = n ∷ Q.front;
            back = Q.back ++ flatten g;
            slot = Q.slot;
            kids = Q.kids;
            lies = Q.lies;
            split = ap (λ (ns : List Node). n ∷ ns) (ap (λ (ns : List Node). ns ++ flatten g) Q.split ∙ assoc4 Q.front mid Q.back (flatten g));
            before = ap suc Q.before;
            filled = rw (d, s) (same_node x l _ _ _ _ c (ap (λ (ns : List Node). ns ++ flatten g) Q.filled ∙ assoc4 (regrown Q.front up (length (tops m))) (flatten m) Q.back (flatten g)));
            grown = same_node x l _ _ _ _ refl (
                regrown-append (flatten f) (flatten g) up (length (tops m))
                ∙ ap (λ (ns : List Node). ns ++ regrown (flatten g) up (length (tops m))) Q.grown
                ∙ ap (λ (ns : List Node). (regrown Q.front up (length (tops m)) ++ (mid ++ Q.back)) ++ ns) rg
                ∙ assoc4 (regrown Q.front up (length (tops m))) mid Q.back (flatten g));
          }

      in_right : (k : Key) (i : ℕ) (x : Key) (l : Label) (f g : Forest) → Lies H k i (Grow x l f g) → (p : ℕ) → ((q : ℕ) → key_in (flatten (Grow x l f g)) q ≡ Some a → q ≡ suc p) → Lacks (flatten f) a.number → length (flatten f) ≤ p → Hole g (p - length (flatten f)) → Hole (Grow x l f g) (suc p)
      in_right k i x l f g lies p one lf w Q =
          let n : Node = record { key = x; label = l; kids = length (tops f) } in
          let mid : List Node = record { key = a; label = Q.cell.label; kids = length (tops Q.below) } ∷ flatten Q.below in
          let s : put a.number m f ≡ f = put-lacks a.number m f lf in
          let rf = regrown-lacks x 1 f lies.1 lf in
          let c = count_is H H' a m b up place ks P x l (Some (k, i)) f lies.0 lies.1 in
          let c2 : length (tops f) ≡ cond (eqb x.number up.number) (length (tops f) + length (tops m) - 1) (length (tops f)) = ap (λ (z : Forest). length (tops z)) (sym s) ∙ c in
          let d = differs x l f g p one in
          let rr : regrown (flatten f ++ Q.front) up (length (tops m)) ≡ flatten f ++ regrown Q.front up (length (tops m)) = regrown-append (flatten f) Q.front up (length (tops m)) ∙ ap (λ (ns : List Node). ns ++ regrown Q.front up (length (tops m))) rf in
          record {
            cell = Q.cell;
            below = Q.below;
            front = n ∷ (flatten f ++ Q.front);
            back = Q.back;
            slot = Q.slot;
            kids = Q.kids;
            lies = Q.lies;
            split = ap (λ (ns : List Node). n ∷ ns) (ap (λ (ns : List Node). flatten f ++ ns) Q.split ∙ sym (append_assoc (flatten f) Q.front (mid ++ Q.back)));
            before = omega (arith, w, Q.before, length-append (flatten f) Q.front);
            filled = rw (d, s) (same_node x l _ _ _ _ c2 (
                ap (λ (ns : List Node). flatten f ++ ns) Q.filled
                ∙ sym (append_assoc (flatten f) (regrown Q.front up (length (tops m))) (flatten m ++ Q.back))
                ∙ ap (λ (ns : List Node). ns ++ (flatten m ++ Q.back)) (sym rr)));
            grown = same_node x l _ _ _ _ refl (
                regrown-append (flatten f) (flatten g) up (length (tops m))
                ∙ ap (λ (ns : List Node). ns ++ regrown (flatten g) up (length (tops m))) rf
                ∙ ap (λ (ns : List Node). flatten f ++ ns) Q.grown
                ∙ sym (append_assoc (flatten f) (regrown Q.front up (length (tops m))) (mid ++ Q.back))
                ∙ ap (λ (ns : List Node). ns ++ (mid ++ Q.back)) (sym rr));
          }
