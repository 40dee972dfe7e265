-- An index while a call gives way: what is unlinked before, and what is left to link behind it.
use Rattle.std.proofs.Common.{◌≡◌, ◌≢◌, ◌⊎◌, inl, inr, ℕ, ◌+◌, List, [], ◌∷◌, ◌++◌, length, take, drop, Option, Some, None, refl, sym, ap, ◌∙◌, subst, arith}
use Rattle.rule_arena.specs.Terms.{Node, Apart, kids_in}
use Rattle.rule_arena.specs.declared.key.Key.{Key}
use Rattle.slt_grammar.specs.Copying.{args_at, back_at, copied, holes_in}
use Rattle.slt_grammar.specs.Keyed.{Keyed, KeyedRule, IsKeyed, key_at, nodes_at}
use Rattle.slt_grammar.specs.KeyedEdits.{IsInlined, Stands, StandsAsCall}
use Rattle.digram_index.specs.Digrams.{occurrence_at}
use Rattle.digram_index.specs.Keeping.{IsIndexBut}
use Rattle.digram_index.specs.Linked.{Linked, IsIndexOf, cell}
use Rattle.digram_index.proofs.Apartness.{one-key}
use Rattle.digram_index.proofs.BuildLemmas.{none-left}
use Rattle.digram_index.proofs.Kept.{near-kept}
use Rattle.digram_index.specs.Partly.{IsAmong, IsPartOf, IsRight}
use Rattle.digram_index.proofs.NodeLinks.{not-among}
use Rattle.digram_index.specs.Copies.{IsCopyLinked, Meets}
use Rattle.digram_index.proofs.CopyMoves.{around}
use Rattle.digram_index.proofs.NearInlines.{IsLeft, IsMet, IsNewMet, WasThere, callee-same, cut, left, many, near, near-inlined, news, reached, terms}

module _ (g h : Keyed) (K : IsKeyed g) (K' : IsKeyed h) (call : Key) (C : StandsAsCall g.rules call) (follow moved : Key) (J : IsInlined g.rules h.rules C.here.rule C.here.place C.called follow moved) where
  abbrev G : List KeyedRule
  G = g.rules

  abbrev r : ℕ
  r = C.here.rule

  abbrev p : ℕ
  p = C.here.place

  abbrev q : ℕ
  q = C.called

  abbrev ns : List Node
  ns = nodes_at g.rules C.here.rule

  abbrev callee : List Node
  callee = nodes_at g.rules C.called

  abbrev kids : List Key
  kids = kids_in (nodes_at g.rules C.here.rule) C.here.place

  abbrev args : List (List Node)
  args = args_at (nodes_at g.rules C.here.rule) C.here.place

  abbrev back : List Node
  back = back_at (nodes_at g.rules C.here.rule) C.here.place

  abbrev front : List Node
  front = take C.here.place (nodes_at g.rules C.here.rule)

  module _ (I mid : Linked) (A : IsIndexOf g I) (free : (n : ℕ) → (n ≡ call.number) ⊎ IsAmong kids n → cell mid n ≡ None) (others : (n : ℕ) → n ≢ call.number → Apart kids n → cell mid n ≡ cell I n)
      (keep : (n : ℕ) → cell I n ≡ None → cell mid n ≡ None) (rules : mid.rules ≡ I.rules) where
    -- the cells of copies are free, since their numbers are those of no node before
    met-free : (n : ℕ) → (IsMet g h K K' call C follow moved J) n → cell mid n ≡ None
    met-free n (u, (key, (m, (e, z)))) = none-left (cell mid n) (λ x. no x (A.only n (λ y. x (keep n y))))
      where
        no : cell mid n ≢ None → (k : Key) × ((s : ℕ) × ((t : ℕ) × ((key_at g.rules s t ≡ Some k) × (k.number ≡ n)))) → ⊥
        no x (k, (s, (t, (w, y)))) = by ((left g h K K' call C follow moved J) s t key w')
          where
            w' : key_at g.rules s t ≡ Some key
            w' = w ∙ ap Some (one-key k key (y ∙ sym z))

            by : ((key.number ≡ call.number) ⊎ IsAmong kids key.number) ⊎ (IsLeft g h K K' call C follow moved J) s t key → ⊥
            by (inl v) = x (ap (cell mid) (sym z) ∙ free key.number v)
            by (inr W) = let o = K'.once key W.rule W.at r (p + u) W.there e in W.unmet o.0 u o.1 m

    before : IsIndexBut g mid (near g h K K' call C follow moved J)
    before = record {
      rules = rules ∙ A.rules;
      all = λ s t key e n. others key.number (λ z. n (inl z)) (not-among kids key.number (λ z. n (inr (inl z)))) ∙ A.all s t key e;
      free = near-free;
      only = λ k x. A.only k (λ e. x (keep k e));
    }
      where
        near-free : (k : ℕ) → (near g h K K' call C follow moved J) k → cell mid k ≡ None
        near-free k (inl z) = free k (inl z)
        near-free k (inr (inl z)) = free k (inr z)
        near-free k (inr (inr z)) = met-free k z

    after : IsIndexBut h mid (near g h K K' call C follow moved J)
    after = near-kept g h mid (near g h K K' call C follow moved J) before (near-inlined g h K K' call C follow moved J)

    met-near : (s t : ℕ) (key : Key) → key_at h.rules s t ≡ Some key → s ≡ r → (IsNewMet g h K K' call C follow moved J) t → (near g h K K' call C follow moved J) key.number
    met-near s t key e z (u, (y, m)) = inr (inr (u, (key, (m, (ap (λ (j : ℕ). key_at h.rules r j) (sym y) ∙ ap (λ (x : ℕ). key_at h.rules x t) (sym z) ∙ e, refl)))))

    part : IsPartOf h mid
    part = record {
      rules = after.rules;
      part = λ s t key e. by s t key e ((reached g h K K' call C follow moved J) s t key e);
      only = λ k x. let w = after.only k x in (w.0, (record { rule = w.1.0; place = w.1.1.0; there = w.1.1.1.0 }, w.1.1.1.1));
    }
      where
        by : (s t : ℕ) (key : Key) → key_at h.rules s t ≡ Some key → ((s ≡ r) × (IsNewMet g h K K' call C follow moved J) t) ⊎ (WasThere g h K K' call C follow moved J) s t key → (cell mid key.number ≡ None) ⊎ (cell mid key.number ≡ occurrence_at h.rules s t)
        by s t key e (inl w) = inl (after.free key.number (met-near s t key e w.0 w.1))
        by s t key e (inr W) = inr (after.all s t key e W.far)

    drop-front : (xs ys : List Node) → drop (length xs) (xs ++ ys) ≡ ys
    drop-front [] ys = refl
    drop-front (x ∷ xs) ys = drop-front xs ys

    -- what is met is (left g h K K' call C follow moved J) to link
    pub copy-begins : (root : Key) (first : Option Key) → key_at h.rules q 0 ≡ Some root → key_at h.rules r p ≡ first → IsCopyLinked h mid q (Some root) first
    copy-begins root first e f = record {
      at = 0;
      rule = r;
      place = p;
      given = args;
      keys = J.keys;
      back = back;
      model_at = e;
      copy_at = λ s. f;
      within = omega arith;
      rest = ap (λ (xs : List Node). drop p xs) (news g h K K' call C follow moved J) ∙ ap (λ (j : ℕ). drop j (around front callee args J.keys back)) (sym (cut g h K K' call C follow moved J).place) ∙ drop-front front (copied callee args J.keys ++ back)
          ∙ ap (λ (xs : List Node). copied xs args J.keys ++ back) (sym (callee-same g h K K' call C follow moved J));
      terms = (terms g h K K' call C follow moved J);
      many = (many g h K K' call C follow moved J) ∙ ap holes_in (sym (callee-same g h K K' call C follow moved J));
      part = part;
      todo = λ key S. by key S ((reached g h K K' call C follow moved J) S.rule S.place key S.there);
    }
      where
        by : (key : Key) (S : Stands h.rules key) → ((S.rule ≡ r) × (IsNewMet g h K K' call C follow moved J) S.place) ⊎ (WasThere g h K K' call C follow moved J) S.rule S.place key
            → IsRight h.rules mid key ⊎ ((t : ℕ) × (Meets (drop 0 (nodes_at h.rules q)) args t × (key_at h.rules r (p + t) ≡ Some key)))
        by key S (inl (z, (u, (y, m)))) =
            inr (u, (subst (λ (xs : List Node). Meets xs args u) (sym (callee-same g h K K' call C follow moved J)) m, ap (λ (j : ℕ). key_at h.rules r j) (sym y) ∙ ap (λ (x : ℕ). key_at h.rules x S.place) (sym z) ∙ S.there))
        by key S (inr W) = inl (λ s t e. after.all s t key e W.far)

  -- the same by what the calls tell
  pub copy-ready : (arguments : List Key) → kids ≡ arguments → (I mid : Linked) → IsIndexOf g I → ((n : ℕ) → (n ≡ call.number) ⊎ IsAmong arguments n → cell mid n ≡ None)
      → ((n : ℕ) → n ≢ call.number → Apart arguments n → cell mid n ≡ cell I n) → ((n : ℕ) → cell I n ≡ None → cell mid n ≡ None) → mid.rules ≡ I.rules
      → (root first : Key) → key_at h.rules q 0 ≡ Some root → key_at h.rules r p ≡ Some first → IsCopyLinked h mid q (Some root) (Some first)
  copy-ready arguments same I mid A free others keep rules root first e f =
      let free' = subst (λ (ks : List Key). (n : ℕ) → (n ≡ call.number) ⊎ IsAmong ks n → cell mid n ≡ None) (sym same) free in
      let others' = subst (λ (ks : List Key). (n : ℕ) → n ≢ call.number → Apart ks n → cell mid n ≡ cell I n) (sym same) others in
      copy-begins I mid A free' others' keep rules root (Some first) e f
