-- The nodes of a run that are linked one after another.
use Rattle.std.proofs.Common.{◌≡◌, ◌≢◌, ◌⊎◌, inl, inr, ℕ, ◌+◌, ◌<◌, ◌≤◌, length, Some, refl, sym, ap, ◌∙◌, subst, arith}
use Rattle.std.proofs.lemmas.Bool.{cases_eq}
use Rattle.rule_arena.specs.declared.key.Key.{Key}
use Rattle.slt_grammar.specs.Keyed.{Keyed, IsKeyed, key_at, nodes_at}
use Rattle.slt_grammar.specs.KeyedEdits.{Stands}
use Rattle.slt_grammar.proofs.KeyedLemmas.{key_at-within, key_in-there}
use Rattle.digram_index.specs.Linked.{Linked, cell}
use Rattle.digram_index.specs.Partly.{IsPartOf, IsRight}
use Rattle.digram_index.proofs.Apartness.{one-key}
use Rattle.digram_index.proofs.LevelLemmas.{same_some}
use Rattle.digram_index.proofs.NodeLinks.{kept-right}
use Rattle.linked_edits.specs.Runs.{IsBetween, IsRun, start_of}

-- the nodes of the run before one of it are linked, and nothing else changed
pub record IsLinkingRun (G : Keyed) (from to here : Key) (old new : Linked) (begin now : ℕ) : Type 0 where
  pub run : IsRun G.rules from to
  pub at : ℕ
  pub few : at ≤ run.more
  pub there : key_at G.rules (start_of G.rules) (run.place + at) ≡ Some here
  pub part : IsPartOf G new
  pub done : (e : ℕ) (key : Key) → e < at → key_at G.rules (start_of G.rules) (run.place + e) ≡ Some key → IsRight G.rules new key
  pub others : (k : ℕ) → (IsBetween G.rules run.place run.more k → ⊥) → cell new k ≡ cell old k
  pub room : length old.cells ≤ length new.cells
  pub spare : old.spare_links ≤ new.spare_links + at
  pub spare_rules : new.spare_rules ≡ old.spare_rules
  pub counted : now ≡ begin + at

pub linking-begins : (G : Keyed) (from to : Key) (I : Linked) (n : ℕ) → IsRun G.rules from to → IsPartOf G I → IsLinkingRun G from to from I I n n
linking-begins G from to I n R P = record {
  run = R;
  at = 0;
  few = omega arith;
  there = let z : R.place + 0 ≡ R.place = omega arith in ap (key_at G.rules (start_of G.rules)) z ∙ R.first;
  part = P;
  done = λ e key l k. absurd (omega (arith, l));
  others = λ k d. refl;
  room = omega arith;
  spare = omega arith;
  spare_rules = refl;
  counted = omega arith;
}

module _ (g : Keyed) (K : IsKeyed g) (from to here : Key) (old now : Linked) (begin n : ℕ) (W : IsLinkingRun g from to here old now begin n) where
  pub here-stands : Stands g.rules here
  here-stands = record { rule = start_of g.rules; place = W.run.place + W.at; there = W.there }

  -- what linking it leaves
  module _ (new : Linked) (right : IsRight g.rules new here) (others : (k : ℕ) → k ≢ here.number → cell new k ≡ cell now k) where
    done-next : (e : ℕ) (key : Key) → e < W.at + 1 → key_at g.rules (start_of g.rules) (W.run.place + e) ≡ Some key → IsRight g.rules new key
    done-next e key l k = by (cases_eq e W.at)
      where
        by : (e ≡ W.at) ⊎ (e ≡ W.at → ⊥) → IsRight g.rules new key
        by (inl z) =
            let y : here ≡ key = same_some here key (sym W.there ∙ ap (λ (j : ℕ). key_at g.rules (start_of g.rules) (W.run.place + j)) (sym z) ∙ k) in
            subst (λ (x : Key). IsRight g.rules new x) y right
        by (inr d) = kept-right g here now new right others key (W.done e key (omega (arith, l, d)) k)

    others-next : (k : ℕ) → (IsBetween g.rules W.run.place W.run.more k → ⊥) → cell new k ≡ cell old k
    others-next k d = others k (λ z. d (record { at = W.at; key = here; few = W.few; there = W.there; named = sym z })) ∙ W.others k d

  -- it is not the last one, so another follows
  goes-on : here.number ≢ to.number → W.at < W.run.more
  goes-on d = by (cases_eq W.at W.run.more)
    where
      by : (W.at ≡ W.run.more) ⊎ (W.at ≡ W.run.more → ⊥) → W.at < W.run.more
      by (inl z) =
          let y : here ≡ to = same_some here to (sym W.there ∙ ap (λ (j : ℕ). key_at g.rules (start_of g.rules) (W.run.place + j)) z ∙ W.run.last) in
          absurd (d (ap (λ (k : Key). k.number) y))
      by (inr z) = omega (arith, z, W.few)

  pub next-linked-there : here.number ≢ to.number → (key : Key) × (key_at g.rules (start_of g.rules) (W.run.place + W.at + 1) ≡ Some key)
  next-linked-there d =
      let t = (key_at-within g.rules (start_of g.rules) (W.run.place + W.run.more) to W.run.last).1 in
      key_in-there (nodes_at g.rules (start_of g.rules)) (W.run.place + W.at + 1) (omega (arith, t, goes-on d))

  pub linking-next : (next : Key) (new : Linked) (m : ℕ) → here.number ≢ to.number → key_at g.rules (start_of g.rules) (W.run.place + W.at + 1) ≡ Some next → IsPartOf g new → IsRight g.rules new here
      → ((k : ℕ) → k ≢ here.number → cell new k ≡ cell now k) → length now.cells ≤ length new.cells → now.spare_links ≤ new.spare_links + 1 → new.spare_rules ≡ now.spare_rules
      → m ≡ n + 1 → IsLinkingRun g from to next old new begin m
  linking-next next new m d follows part right others room spare spare_rules e = record {
    run = W.run;
    at = W.at + 1;
    few = omega (arith, goes-on d);
    there = let z : W.run.place + (W.at + 1) ≡ W.run.place + W.at + 1 = omega arith in ap (key_at g.rules (start_of g.rules)) z ∙ follows;
    part = part;
    done = done-next new right others;
    others = others-next new right others;
    room = omega (arith, room, W.room);
    spare = omega (arith, spare, W.spare);
    spare_rules = spare_rules ∙ W.spare_rules;
    counted = omega (arith, e, W.counted);
  }

  -- the last one was reached, and is linked
  module _ (reached : here.number ≡ to.number) where
    same-here : here ≡ to
    same-here = one-key here to reached

    at-end : W.at ≡ W.run.more
    at-end =
        let o = K.once to (start_of g.rules) (W.run.place + W.at) (start_of g.rules) (W.run.place + W.run.more) (W.there ∙ ap (λ (k : Key). Some k) same-here) W.run.last in
        omega (arith, o.1)

    same-place : (R : IsRun g.rules from to) → (R.place ≡ W.run.place) × (R.more ≡ W.run.more)
    same-place R =
        let o = K.once from (start_of g.rules) R.place (start_of g.rules) W.run.place R.first W.run.first in
        let q = K.once to (start_of g.rules) (R.place + R.more) (start_of g.rules) (W.run.place + W.run.more) R.last W.run.last in
        (o.1, omega (arith, o.1, q.1))

    pub last-stands : Stands g.rules to
    last-stands = subst (λ (x : Key). Stands g.rules x) same-here here-stands

    module _ (new : Linked) (right : IsRight g.rules new to) (others : (k : ℕ) → k ≢ to.number → cell new k ≡ cell now k) where
      right' : IsRight g.rules new here
      right' = subst (λ (x : Key). IsRight g.rules new x) (sym same-here) right

      others' : (k : ℕ) → k ≢ here.number → cell new k ≡ cell now k
      others' k d = others k (λ z. d (z ∙ sym reached))

      pub all-right : (R : IsRun g.rules from to) (key : Key) → IsBetween g.rules R.place R.more key.number → IsRight g.rules new key
      all-right R key B =
          let P = same-place R in
          let t = ap (λ (j : ℕ). key_at g.rules (start_of g.rules) (j + B.at)) (sym P.0) ∙ B.there in
          subst (λ (x : Key). IsRight g.rules new x) (one-key B.key key B.named) (done-next new right' others' B.at B.key (omega (arith, B.few, P.1, at-end)) t)

      pub linked-others : (R : IsRun g.rules from to) (k : ℕ) → (IsBetween g.rules R.place R.more k → ⊥) → cell new k ≡ cell old k
      linked-others R k d =
          let P = same-place R in
          others-next new right' others' k (λ B. d (record { at = B.at; key = B.key; few = omega (arith, B.few, P.1); there = ap (λ (j : ℕ). key_at g.rules (start_of g.rules) (j + B.at)) P.0 ∙ B.there; named = B.named }))

      pub linked-spare : (R : IsRun g.rules from to) → now.spare_links ≤ new.spare_links + 1 → old.spare_links ≤ new.spare_links + (R.more + 1)
      linked-spare R s = let P = same-place R in omega (arith, s, W.spare, P.1, at-end)

  -- there is room for one more
  pub linking-room : ((R : IsRun g.rules from to) → R.more + 1 ≤ old.spare_links) → 0 < now.spare_links
  linking-room l = omega (arith, l W.run, W.spare, W.few)
