-- The index of a grammar that was folded.
use Rattle.std.proofs.Common.{◌≡◌, ◌≢◌, ◌⊎◌, inl, inr, ℕ, List, Some, None, slice_get, refl, sym, ap, ◌∙◌, subst, arith}
use Rattle.std.proofs.lemmas.Bool.{cases_eq}
use Rattle.rule_arena.specs.Terms.{Node, kids_in}
use Rattle.rule_arena.specs.declared.key.Key.{Key}
use Rattle.slt_grammar.specs.Names.{Call}
use Rattle.slt_grammar.specs.Holding.{IsLawful}
use Rattle.slt_grammar.specs.Keyed.{Keyed, KeyedRule, IsKeyed, key_at, nodes_at}
use Rattle.slt_grammar.specs.KeyedEdits.{FoldsInto, Stands, with_nodes, folded_nodes}
use Rattle.slt_grammar.proofs.FoldedRules.{low-place, one-term}
use Rattle.digram_index.specs.Digrams.{occurrence_at}
use Rattle.digram_index.specs.Keeping.{IsIndexBut}
use Rattle.digram_index.specs.Linked.{Linked, cell}
use Rattle.digram_index.proofs.Apartness.{one-key}
use Rattle.digram_index.proofs.Kept.{near-kept}
use Rattle.digram_index.specs.Partly.{IsAmong, IsPartOf, IsRight}
use Rattle.pair_replace.specs.Near.{IsAround, AreAround}
use Rattle.pair_replace.proofs.KidLinks.{among-test}
use Rattle.digram_index.proofs.Kids.{kid-there}
use Rattle.pair_replace.proofs.NearFolds.{near, fold-near, near-there, arrives, stay}

around-same : (up up' : Key) (s s' c c' : List Key) → up ≡ up' → s ≡ s' → c ≡ c' → (n : ℕ) → IsAround up s c n → IsAround up' s' c' n
around-same up up' s s' c c' e f k n z = subst (λ (x : Key). IsAround x s' c' n) e (subst (λ (x : List Key). IsAround up x c' n) f (subst (λ (x : List Key). IsAround up s x n) k z))

pub around-test : (up : Key) (s c : List Key) (n : ℕ) → IsAround up s c n ⊎ (IsAround up s c n → ⊥)
around-test up s c n = by (cases_eq n up.number) (among-test s n) (among-test c n)
  where
    no : (n ≡ up.number → ⊥) → (IsAmong s n → ⊥) → (IsAmong c n → ⊥) → IsAround up s c n → ⊥
    no a b d (inl z) = a z
    no a b d (inr (inl z)) = b z
    no a b d (inr (inr z)) = d z

    by : (n ≡ up.number) ⊎ (n ≡ up.number → ⊥) → IsAmong s n ⊎ (IsAmong s n → ⊥) → IsAmong c n ⊎ (IsAmong c n → ⊥) → IsAround up s c n ⊎ (IsAround up s c n → ⊥)
    by (inl z) b d = inl (inl z)
    by (inr a) (inl z) d = inl (inr (inl z))
    by (inr a) (inr b) (inl z) = inl (inr (inr z))
    by (inr a) (inr b) (inr d) = inr (no a b d)

module _ (g h : Keyed) (K : IsKeyed g) (low : Key) (q : ℕ) (F : FoldsInto g.rules low q)
    (made : h.rules ≡ with_nodes g.rules F.here.rule (folded_nodes (nodes_at g.rules F.here.rule) F.place F.upper F.here.place (Call q)))
    (up : Key) (siblings children : List Key) (is_up : up ≡ F.upper) (are_siblings : siblings ≡ kids_in (nodes_at g.rules F.here.rule) F.place) (are_children : children ≡ kids_in (nodes_at g.rules F.here.rule) F.here.place)
    (own : Key) (own_at : (p : ℕ) × (key_at g.rules q p ≡ Some own)) (I mid : Linked) (B : IsIndexBut g I (λ k. k ≡ own.number))
    (free : (n : ℕ) → IsAround up siblings children n → cell mid n ≡ None) (others : (n : ℕ) → (IsAround up siblings children n → ⊥) → cell mid n ≡ cell I n)
    (stays : (n : ℕ) → cell I n ≡ None → cell mid n ≡ None) (rules : mid.rules ≡ I.rules) where
  abbrev G : List KeyedRule
  G = g.rules

  abbrev ns : List Node
  ns = nodes_at G F.here.rule

  lawful : IsLawful G
  lawful = record { grammar = K.grammar; arities = K.arities }

  once : (i j : ℕ) (k : Key) → key_at G F.here.rule i ≡ Some k → key_at G F.here.rule j ≡ Some k → i ≡ j
  once i j k e f = (K.once k F.here.rule i F.here.rule j e f).1

  abbrev Near : ℕ → Type 0
  Near n = IsAround up siblings children n

  to-near : (n : ℕ) → Near n → near g h K low q F made n
  to-near n z = around-same up F.upper siblings (kids_in ns F.place) children (kids_in ns F.here.place) is_up are_siblings are_children n z

  from-near : (n : ℕ) → near g h K low q F made n → Near n
  from-near n z = around-same F.upper up (kids_in ns F.place) siblings (kids_in ns F.here.place) children (sym is_up) (sym are_siblings) (sym are_children) n z

  -- the nodes that are not linked meanwhile
  abbrev Open : ℕ → Type 0
  Open k = (k ≡ own.number) ⊎ Near k

  own-far : Near own.number → ⊥
  own-far z =
      let t = near-there g h K low q F made own.number (to-near own.number z) in
      let o = K.once own F.here.rule t.0 q own_at.0 (t.1.1.0 ∙ ap Some (one-key t.1.0 own t.1.1.1)) own_at.1 in
      absurd (let e = F.earlier in omega (arith, o.0, e))

  open-test : (k : ℕ) → Open k ⊎ (Open k → ⊥)
  open-test k = by (cases_eq k own.number) (around-test up siblings children k)
    where
      no : (k ≡ own.number → ⊥) → (Near k → ⊥) → Open k → ⊥
      no d f (inl z) = d z
      no d f (inr z) = f z

      by : (k ≡ own.number) ⊎ (k ≡ own.number → ⊥) → Near k ⊎ (Near k → ⊥) → Open k ⊎ (Open k → ⊥)
      by (inl z) t = inl (inl z)
      by (inr d) (inl z) = inl (inr z)
      by (inr d) (inr f) = inr (no d f)

  before : IsIndexBut g mid Open
  before = record {
    rules = rules ∙ B.rules;
    all = λ r p key k n. others key.number (λ z. n (inr z)) ∙ B.all r p key k (λ z. n (inl z));
    free = λ k z. open-free k z;
    only = λ k x. B.only k (λ e. x (stays k e));
  }
    where
      open-free : (k : ℕ) → Open k → cell mid k ≡ None
      open-free k (inl z) = stays k (B.free k z)
      open-free k (inr z) = free k z

  after : IsIndexBut h mid Open
  after =
      let N = fold-near g h K low q F made in
      near-kept g h mid Open before (record {
        ranks = N.ranks;
        rules = N.rules;
        same = λ r p key k n. N.same r p key k (λ z. n (inr (from-near key.number z)));
        stay = λ r p key k n. N.stay r p key k (λ z. n (inr (from-near key.number z)));
      })

  pub part : IsPartOf h mid
  part = record {
    rules = after.rules;
    part = λ r p key k. by r p key k (open-test key.number);
    only = λ k x. let w = after.only k x in (w.0, (record { rule = w.1.0; place = w.1.1.0; there = w.1.1.1.0 }, w.1.1.1.1));
  }
    where
      by : (r p : ℕ) (key : Key) → key_at h.rules r p ≡ Some key → Open key.number ⊎ (Open key.number → ⊥) → (cell mid key.number ≡ None) ⊎ (cell mid key.number ≡ occurrence_at h.rules r p)
      by r p key k (inl z) = inl (after.free key.number z)
      by r p key k (inr d) = inr (after.all r p key k d)

  stands : (s p : ℕ) (key : Key) → key_at G s p ≡ Some key → key ≢ low → Stands h.rules key
  stands s p key k d = let t = stay g h K low q F made s p key k d in record { rule = t.0; place = t.1.0; there = t.1.1 }

  pub upper-stands : Stands h.rules up
  upper-stands =
      subst (λ (x : Key). Stands h.rules x) (sym is_up) (stands F.here.rule F.place F.upper F.above (λ z.
      let o = once F.place F.here.place low (F.above ∙ ap Some z) F.here.there in
      absurd (omega (arith, o, low-place G low q lawful F once))))

  pub siblings-stand : AreAround h.rules siblings low
  siblings-stand i key e d =
      let t = kid-there ns F.place F.upper i key (one-term G low q lawful F once) F.above (ap (λ (ks : List Key). slice_get ks i) (sym are_siblings) ∙ e) in
      stands F.here.rule t.0 key t.1 d

  pub children-stand : AreAround h.rules children low
  children-stand i key e d =
      let t = kid-there ns F.here.place low i key (one-term G low q lawful F once) F.here.there (ap (λ (ks : List Key). slice_get ks i) (sym are_children) ∙ e) in
      stands F.here.rule t.0 key t.1 d

  pub folded-index : (J : Linked) → IsPartOf h J → ((k : Key) → IsAround up siblings children k.number → k ≢ low → IsRight h.rules J k)
      → ((n : ℕ) → (IsAround up siblings children n → ⊥) → cell J n ≡ cell mid n) → IsIndexBut h J (λ k. k ≡ own.number)
  folded-index J P linked far = record {
    rules = P.rules;
    all = λ r p key k n. by r p key k n (around-test up siblings children key.number);
    free = λ k z. ap (λ (n : ℕ). cell J n) z ∙ far own.number own-far ∙ after.free own.number (inl refl);
    only = λ k x. let w = P.only k x in (w.0, (w.1.0.rule, (w.1.0.place, (w.1.0.there, w.1.1))));
  }
    where
      not-open : (k : ℕ) → (k ≡ own.number → ⊥) → (Near k → ⊥) → Open k → ⊥
      not-open k d f (inl z) = d z
      not-open k d f (inr z) = f z

      by : (r p : ℕ) (key : Key) → key_at h.rules r p ≡ Some key → (key.number ≡ own.number → ⊥) → Near key.number ⊎ (Near key.number → ⊥) → cell J key.number ≡ occurrence_at h.rules r p
      by r p key k n (inl z) = linked key z (arrives g h K low q F made r p key k).1.1 r p k
      by r p key k n (inr f) = far key.number f ∙ after.all r p key k (not-open key.number n f)

  -- no cell but those of the near nodes is changed
  pub far-same : (J : Linked) → ((n : ℕ) → (IsAround up siblings children n → ⊥) → cell J n ≡ cell mid n) → (n : ℕ) → (IsAround F.upper (kids_in ns F.place) (kids_in ns F.here.place) n → ⊥) → cell J n ≡ cell I n
  far-same J far n f = far n (λ z. f (to-near n z)) ∙ others n (λ z. f (to-near n z))
