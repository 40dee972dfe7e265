-- The nodes that came in the place of a call are linked one after another, beside the nodes of the body.
use Rattle.std.proofs.Common.{◌≡◌, ◌≢◌, ◌⊎◌, inl, inr, ℕ, zero, suc, ◌+◌, ◌<◌, ◌≤◌, List, [], ◌∷◌, ◌++◌, length, drop, get_or, Option, Some, None, IsSome, slice_get, refl, sym, ap, ◌∙◌, subst, arith, append_assoc}
use Rattle.rule_arena.specs.Preorder.{span}
use Rattle.rule_arena.specs.Terms.{Node, key_in, kids_of}
use Rattle.rule_arena.specs.declared.key.Key.{Key}
use Rattle.rule_arena.specs.declared.label.Label.{Label}
use Rattle.rule_arena.specs.declared.label.Label.TheVariants.{Param}
use Rattle.rule_arena.proofs.NodeLemmas.{node_of}
use Rattle.rule_arena.proofs.PreorderLemmas.{span-append}
use Rattle.slt_grammar.specs.Copying.{copied, hole, holes_in}
use Rattle.slt_grammar.specs.Keyed.{Keyed, IsKeyed, key_at, nodes_at}
use Rattle.slt_grammar.specs.KeyedEdits.{Stands}
use Rattle.digram_index.specs.Digrams.{occurrence_at}
use Rattle.digram_index.specs.Linked.{IsIndexOf, Linked, cell}
use Rattle.digram_index.specs.Marking.{MarksFewer}
use Rattle.digram_index.proofs.LevelLemmas.{same_some}
use Rattle.digram_index.specs.Partly.{IsPartOf, IsRight}
use Rattle.digram_index.proofs.NodeLinks.{kept-right}
use Rattle.digram_index.specs.Copies.{AreEachTerms, IsCopyLinked, Meets, end_of, width}
use Rattle.digram_index.proofs.CopyPlaces.{Kind, as_copy, as_argument, kind-of, copied-first, each-drop, first-of, length-drop-holes, piece-argument, piece-width, rest-of, some-wide}
use Rattle.digram_index.proofs.Numbered.{fewer-both, fewer-same}

-- a list from the place of an item on
pub drop-item : {X : Type 0} (xs : List X) (i : ℕ) (x : X) → slice_get xs i ≡ Some x → drop i xs ≡ x ∷ drop (i + 1) xs
drop-item [] i x e = absurd (cc)
drop-item (y ∷ xs) zero x e = let z : y ≡ x = cc in ap (λ u. u ∷ xs) z
drop-item (y ∷ xs) (suc i) x e = let z : suc i + 1 ≡ suc (i + 1) = omega arith in rw z (drop-item xs i x e)

drop-none : (xs : List Node) (i : ℕ) → key_in xs i ≡ None → drop i xs ≡ []
drop-none [] zero e = refl
drop-none [] (suc i) e = refl
drop-none (x ∷ xs) zero e = absurd (let z : Some x.key ≡ None = e in cc)
drop-none (x ∷ xs) (suc i) e = drop-none xs i e

pub key-drop : (xs : List Node) (i j : ℕ) → key_in (drop i xs) j ≡ key_in xs (i + j)
key-drop xs zero j = let z : zero + j ≡ j = omega arith in ap (λ (k : ℕ). key_in xs k) (sym z)
key-drop [] (suc i) j = refl
key-drop (x ∷ xs) (suc i) j = let z : suc i + j ≡ suc (i + j) = omega arith in key-drop xs i j ∙ ap (λ (k : ℕ). key_in (x ∷ xs) k) (sym z)

drop-plus : (xs : List Node) (i j : ℕ) → drop (i + j) xs ≡ drop j (drop i xs)
drop-plus xs zero j = let z : zero + j ≡ j = omega arith in ap (λ (k : ℕ). drop k xs) z
drop-plus [] (suc i) j = none (suc i + j) ∙ sym (none j)
  where
    none : (k : ℕ) → let ys : List Node = [] in drop k ys ≡ ys
    none zero = refl
    none (suc k) = refl
drop-plus (x ∷ xs) (suc i) j = let z : suc i + j ≡ suc (i + j) = omega arith in ap (λ (k : ℕ). drop k (x ∷ xs)) z ∙ drop-plus xs i j

drop-front : (xs ys : List Node) (k : ℕ) → length xs ≡ k → drop k (xs ++ ys) ≡ ys
drop-front [] ys zero e = refl
drop-front [] ys (suc k) e = absurd (omega (arith, e))
drop-front (x ∷ xs) ys zero e = absurd (omega (arith, e))
drop-front (x ∷ xs) ys (suc k) e = drop-front xs ys k (omega (arith, e))

pub length-drop-item : (xs : List Node) (i : ℕ) (x : Node) → slice_get xs i ≡ Some x → i + 1 ≤ length xs
length-drop-item [] i x e = absurd (let z : None ≡ Some x = e in cc)
length-drop-item (y ∷ xs) zero x e = omega arith
length-drop-item (y ∷ xs) (suc i) x e = omega (arith, length-drop-item xs i x e)

-- a number is that of a node that the walk has still to meet
abbrev pub IsAhead : (g : Keyed) (I : Linked) (q : ℕ) (model copy : Option Key) → IsCopyLinked g I q model copy → ℕ → Type 0
IsAhead g I q model copy W n = (t : ℕ) × ((key : Key) × (Meets (drop W.at (nodes_at g.rules q)) W.given t × ((key_at g.rules W.rule (W.place + t) ≡ Some key) × (key.number ≡ n))))

-- a walk over a body and its copy
pub record IsWalking (g : Keyed) (q : ℕ) (old new : Linked) (model copy : Option Key) (begin now : ℕ) : Type 0 where
  pub left : IsCopyLinked g new q model copy
  pub cells : length old.cells ≤ length new.cells
  pub spare : old.spare_links ≤ new.spare_links + left.at
  pub spare_rules : new.spare_rules ≡ old.spare_rules
  pub counted : now ≡ begin + (left.at + left.at)
  pub marks : MarksFewer old new

module _ (g : Keyed) (K : IsKeyed g) (q : ℕ) where
  pub walking-begins : (I : Linked) (root : Key) (first : Option Key) (begin : ℕ) → key_at g.rules q 0 ≡ Some root → IsCopyLinked g I q (Some root) first → IsWalking g q I I (Some root) first begin begin
  walking-begins I root first begin e V =
      let o = (K.once root q V.at q 0 V.model_at e).1 in
      record { left = V; cells = omega arith; spare = omega arith; spare_rules = refl; counted = omega (arith, o); marks = fewer-same I }

  module _ (I : Linked) (node : Key) (copy : Option Key) (W : IsCopyLinked g I q (Some node) copy) (label : Label)
      (told : (p : ℕ) → key_at g.rules q p ≡ Some node → (n : ℕ) × (slice_get (nodes_at g.rules q) p ≡ Some (record { key = node; label = label; kids = n }))) where
    abbrev n : Node
    n = record { key = node; label = label; kids = (told W.at W.model_at).0 }

    abbrev ns : List Node
    ns = drop (W.at + 1) (nodes_at g.rules q)

    here : slice_get (nodes_at g.rules q) W.at ≡ Some n
    here = (told W.at W.model_at).1

    from : drop W.at (nodes_at g.rules q) ≡ n ∷ ns
    from = drop-item (nodes_at g.rules q) W.at n here

    many : length W.given ≡ holes_in (n ∷ ns)
    many = W.many ∙ ap holes_in from

    wide : 0 < width label W.given
    wide = some-wide n ns W.given many W.terms

    rest : drop W.place (nodes_at g.rules W.rule) ≡ first-of n W.given W.keys ++ (rest-of n ns W.given W.keys ++ W.back)
    rest =
        W.rest ∙ ap (λ (xs : List Node). copied xs W.given W.keys ++ W.back) from ∙ ap (λ (xs : List Node). xs ++ W.back) (copied-first n ns W.given W.keys)
        ∙ append_assoc (first-of n W.given W.keys) (rest-of n ns W.given W.keys) W.back

    -- something came for the node
    pub some-copy : IsSome copy
    some-copy =
        let h = some-key (first-of n W.given W.keys) (rest-of n ns W.given W.keys ++ W.back) (omega (arith, wide, piece-width label n (get_or W.keys 0 n.key) W.given)) in
        let z : W.place + 0 ≡ W.place = omega arith in
        let e : Some h.0 ≡ copy = sym h.1 ∙ ap (λ (xs : List Node). key_in xs 0) (sym rest) ∙ key-drop (nodes_at g.rules W.rule) W.place 0 ∙ ap (λ (k : ℕ). key_at g.rules W.rule k) z ∙ W.copy_at refl in
        subst (λ (o : Option Key). IsSome o) e refl
      where
        some-key : (xs ys : List Node) → 0 < length xs → (k : Key) × (key_in (xs ++ ys) 0 ≡ Some k)
        some-key [] ys h = absurd (omega (arith, h))
        some-key (x ∷ xs) ys h = (x.key, refl)

    pub room : (total : ℕ) → length (nodes_at g.rules q) ≤ total → (left : ℕ) → total ≤ left + W.at → 0 < left
    room total h left k = omega (arith, h, k, length-drop-item (nodes_at g.rules q) W.at n here)

    module _ (key : Key) (is_key : copy ≡ Some key) where
      pub copy-there : key_at g.rules W.rule W.place ≡ Some key
      copy-there = W.copy_at refl ∙ is_key

      pub copy-stands : Stands g.rules key
      copy-stands = record { rule = W.rule; place = W.place; there = copy-there }

      -- it is the first that is ahead
      pub ahead-here : IsAhead g I q (Some node) copy W key.number
      ahead-here =
          let z : W.place + 0 ≡ W.place = omega arith in
          (0, (key, (subst (λ (xs : List Node). Meets xs W.given 0) (sym from) (inl refl), (ap (λ (j : ℕ). key_at g.rules W.rule j) z ∙ copy-there, refl))))

      -- the next one that came
      module _ (next : Option Key) (is_argument : label ≡ Param → (r p : ℕ) → key_at g.rules r p ≡ Some key → key_at g.rules r (end_of (nodes_at g.rules r) p) ≡ next)
          (is_node : label ≢ Param → (r p : ℕ) → key_at g.rules r p ≡ Some key → key_at g.rules r (p + 1) ≡ next) where
        pub next-at : key_at g.rules W.rule (W.place + width label W.given) ≡ next
        next-at = by (kind-of n ns W.given many)
          where
            by : Kind n W.given → key_at g.rules W.rule (W.place + width label W.given) ≡ next
            by (as_copy a b w p) = ap (λ (k : ℕ). key_at g.rules W.rule (W.place + k)) w ∙ is_node b W.rule W.place copy-there
            by (as_argument x more e a z) =
                let u = subst AreEachTerms z W.terms in
                let f : first-of n W.given W.keys ≡ x = piece-argument n (get_or W.keys 0 n.key) W.given x more e z in
                let l : end_of (nodes_at g.rules W.rule) W.place ≡ W.place + width label W.given =
                ap (λ (xs : List Node). W.place + span kids_of 1 xs) (rest ∙ ap (λ (xs : List Node). xs ++ (rest-of n ns W.given W.keys ++ W.back)) f)
                ∙ ap (λ (k : ℕ). W.place + k) (span-append kids_of 1 x (rest-of n ns W.given W.keys ++ W.back) u.0 ∙ sym (ap length f) ∙ piece-width label n (get_or W.keys 0 n.key) W.given) in
                ap (λ (k : ℕ). key_at g.rules W.rule k) (sym l) ∙ is_argument e W.rule W.place copy-there

      module _ (J : Linked) (part : IsPartOf g J) (right : IsRight g.rules J key) (others : (k : ℕ) → k ≢ key.number → cell J k ≡ cell I k) (next model : Option Key)
          (is_model : (p : ℕ) → key_at g.rules q p ≡ Some node → key_at g.rules q (p + 1) ≡ model) (is_next : IsSome model → key_at g.rules W.rule (W.place + width label W.given) ≡ next) where
        todo : (k : Key) → Stands g.rules k → IsRight g.rules I k ⊎ ((t : ℕ) × (Meets (drop W.at (nodes_at g.rules q)) W.given t × (key_at g.rules W.rule (W.place + t) ≡ Some k)))
            → IsRight g.rules J k ⊎ ((t : ℕ) × (Meets ns (drop (hole label) W.given) t × (key_at g.rules W.rule (W.place + width label W.given + t) ≡ Some k)))
        todo k S (inl R) = inl (kept-right g key I J right others k R)
        todo k S (inr (t, (m, e))) = by (subst (λ (xs : List Node). Meets xs W.given t) from m)
          where
            by : Meets (n ∷ ns) W.given t → IsRight g.rules J k ⊎ ((t : ℕ) × (Meets ns (drop (hole label) W.given) t × (key_at g.rules W.rule (W.place + width label W.given + t) ≡ Some k)))
            by (inl z) =
                let y : key ≡ k = same_some key k (sym copy-there ∙ ap (λ (j : ℕ). key_at g.rules W.rule j) (omega (arith, z)) ∙ e) in
                inl (subst (λ (x : Key). IsRight g.rules J x) y right)
            by (inr (u, (z, m'))) = inr (u, (m', ap (λ (j : ℕ). key_at g.rules W.rule j) (omega (arith, z)) ∙ e))

        pub copy-next : IsCopyLinked g J q model next
        copy-next = record {
          at = W.at + 1;
          rule = W.rule;
          place = W.place + width label W.given;
          given = drop (hole label) W.given;
          keys = drop 1 W.keys;
          back = W.back;
          model_at = is_model W.at W.model_at;
          copy_at = is_next;
          within = length-drop-item (nodes_at g.rules q) W.at n here;
          rest = drop-plus (nodes_at g.rules W.rule) W.place (width label W.given) ∙ ap (λ (xs : List Node). drop (width label W.given) xs) rest
              ∙ drop-front (first-of n W.given W.keys) (rest-of n ns W.given W.keys ++ W.back) (width label W.given) (piece-width label n (get_or W.keys 0 n.key) W.given);
          terms = each-drop (hole label) W.given W.terms;
          many = length-drop-holes n ns W.given many;
          part = part;
          todo = λ k S. todo k S (W.todo k S);
        }

        pub at-next : copy-next.at ≡ W.at + 1
        unfolding copy-next
        at-next = refl

        -- what is ahead is the node, or ahead of the next one
        pub ahead-next : (m : ℕ) → IsAhead g I q (Some node) copy W m → (m ≡ key.number) ⊎ IsAhead g J q model next copy-next m
        unfolding copy-next
        ahead-next m (t, (k, (M, (e, z)))) = by (subst (λ (xs : List Node). Meets xs W.given t) from M)
          where
            by : Meets (n ∷ ns) W.given t → (m ≡ key.number) ⊎ IsAhead g J q model next copy-next m
            by (inl y) =
                let w : key ≡ k = same_some key k (sym copy-there ∙ ap (λ (j : ℕ). key_at g.rules W.rule j) (omega (arith, y)) ∙ e) in
                inl (sym z ∙ ap (λ (x : Key). x.number) (sym w))
            by (inr (u, (y, N))) = inr (u, (k, (N, (ap (λ (j : ℕ). key_at g.rules W.rule j) (omega (arith, y)) ∙ e, z))))

        pub ahead-still : (m : ℕ) → IsAhead g J q model next copy-next m → IsAhead g I q (Some node) copy W m
        unfolding copy-next
        ahead-still m (u, (k, (N, (e, z)))) =
            let t : ℕ = width label W.given + u in
            (t, (k, (subst (λ (xs : List Node). Meets xs W.given t) (sym from) (inr (u, (refl, N))), (ap (λ (j : ℕ). key_at g.rules W.rule j) (omega arith) ∙ e, z))))

        pub walking-next : (old : Linked) (begin now then : ℕ) → length old.cells ≤ length I.cells → old.spare_links ≤ I.spare_links + W.at → now ≡ begin + (W.at + W.at)
            → length I.cells ≤ length J.cells → I.spare_links ≤ J.spare_links + 1 → I.spare_rules ≡ old.spare_rules → J.spare_rules ≡ I.spare_rules → then ≡ now + 1 + 1 → MarksFewer old I → MarksFewer I J → IsWalking g q old J model next begin then
        unfolding copy-next
        walking-next old begin now then a b c d e u v f s t = record { left = copy-next; cells = omega (arith, a, d); spare = omega (arith, b, e); spare_rules = v ∙ u; counted = omega (arith, c, f); marks = fewer-both old I J s t }

  -- behind the last node of the body nothing is left to link
  pub copy-ends : (I : Linked) (copy : Option Key) → IsCopyLinked g I q None copy → IsIndexOf g I
  copy-ends I copy W = record {
    rules = P.rules;
    all = λ r p key e. by r p key e (W.todo key (record { rule = r; place = p; there = e }));
    only = λ k x. let w = P.only k x in (w.0, (w.1.0.rule, (w.1.0.place, (w.1.0.there, w.1.1))));
  }
    where
      P : IsPartOf g I
      P = W.part

      none : drop W.at (nodes_at g.rules q) ≡ []
      none = drop-none (nodes_at g.rules q) W.at W.model_at

      by : (r p : ℕ) (key : Key) → key_at g.rules r p ≡ Some key → IsRight g.rules I key ⊎ ((t : ℕ) × (Meets (drop W.at (nodes_at g.rules q)) W.given t × (key_at g.rules W.rule (W.place + t) ≡ Some key))) → cell I key.number ≡ occurrence_at g.rules r p
      by r p key e (inl R) = R r p e
      by r p key e (inr (t, (m, f))) = absurd (subst (λ (xs : List Node). Meets xs W.given t) none m)

  module _ (I : Linked) (node : Key) (copy : Option Key) (W : IsCopyLinked g I q (Some node) copy) where
    model : (n : Node) × ((slice_get (nodes_at g.rules q) W.at ≡ Some n) × (n.key ≡ node))
    model = node_of (nodes_at g.rules q) W.at node W.model_at

    model-told : (p : ℕ) → key_at g.rules q p ≡ Some node → (k : ℕ) × (slice_get (nodes_at g.rules q) p ≡ Some (record { key = node; label = model.0.label; kids = k }))
    model-told p e = (
      model.0.kids,
      ap (λ (j : ℕ). slice_get (nodes_at g.rules q) j) (K.once node q p q W.at e W.model_at).1 ∙ model.1.0
          ∙ ap (λ (k : Key). let m : Node = record { key = k; label = model.0.label; kids = model.0.kids } in Some m) model.1.1,
    )

    pub is-copy : IsSome copy
    is-copy = some-copy I node copy W model.0.label model-told

    pub is-room : (total : ℕ) → length (nodes_at g.rules q) ≤ total → (left : ℕ) → total ≤ left + W.at → 0 < left
    is-room = room I node copy W model.0.label model-told
