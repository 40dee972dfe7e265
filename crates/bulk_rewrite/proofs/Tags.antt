-- The fates of values are told by the tags of nodes.
use Rattle.std.proofs.Common.{◌≡◌, ℕ, List, [], ◌∷◌, ◌++◌, map, All, Bool, true, false, not, eqb, Option, Some, None, IfSome, slice_get, if◌then◌else◌, refl, sym, ap, ◌∙◌}
use Rattle.std.proofs.lemmas.List.{map-append}
use Rattle.slt_grammar.specs.Algebras.{Algebra}
use Rattle.slt_grammar.specs.Automata.{Downward, hits, hits_from, nodes_in}
use Rattle.slt_grammar.specs.Terms.{Term, Leaf, Node, Hole, up}
use Rattle.slt_grammar.specs.declared.automata.Fell.{Fell}
use Rattle.rule_runs.specs.Hits.{numbers, symbols_in}
use Rattle.rule_runs.specs.declared.listing.Hit.{Hit}
use Rattle.bulk_rewrite.specs.Fates.{Fate, Stays, Joins, Drops, fate_of, fates, one_fate}
use Rattle.bulk_rewrite.specs.Joining.{Marked, At, NoText, joining_run, step_joining}
use Rattle.bulk_rewrite.specs.Rewriting.{rewritten}
use Rattle.bulk_rewrite.specs.Tags.{tag_of, told_fate, node_tag, tagging, one_state, one_algebra, value_run, told_fates}
use Rattle.bulk_rewrite.proofs.HitSymbols.{hit_symbols, told-symbols}

told-tag : (x : Fate) → told_fate (tag_of x) ≡ x
told-tag Stays = refl
told-tag Joins = refl
told-tag Drops = refl

one-tag : (b : Bool) (x : Fate) → (if not (eqb (node_tag b x) 0) then node_tag b x ∷ [] else []) ≡ map tag_of (one_fate b x)
one-tag true Stays = refl
one-tag true Joins = refl
one-tag true Drops = refl
one-tag false x = refl

told-tags : (found : List Hit) (xs : List Fate) → map (λ h. h.symbol) found ≡ map tag_of xs → told_fates found ≡ xs
told-tags [] [] e = refl
told-tags [] (x ∷ xs) e = absurd (cc)
told-tags (h ∷ found) [] e = absurd (cc)
told-tags (h ∷ found) (x ∷ xs) e =
    let one : h.symbol ≡ tag_of x = cc in
    let rest : map (λ h. h.symbol) found ≡ map tag_of xs = cc in
    let first : told_fate h.symbol ≡ x = ap told_fate one ∙ told-tag x in
    rw (first, told-tags found xs rest) refl

module _ {S D : Type 0} (A : Algebra S) (W : Downward S D) (valued texts : ℕ → Bool) (states : List S) where
  abbrev tagged : Term → Marked D → Term
  tagged t o = rewritten A (joining_run W texts) (tagging valued texts) t states o

  pub nodes-tagged : (t : Term) (o : Marked D) → nodes_in (tagged t o) ≡ nodes_in t
  nodes-tagged Leaf o = refl
  nodes-tagged (Hole i) o = refl
  nodes-tagged (Node f a b) o =
      let s : Fell (Marked D) = step_joining W texts f o (up A a states) (up A b states) in
      rw (nodes-tagged a s.left, nodes-tagged b s.right) refl

  tags-hit : (t : Term) (o : Marked D) → hit_symbols one_algebra value_run [] (tagged t o) one_state ≡ map tag_of (fates A W valued texts t states o)
  tags-hit Leaf o = refl
  tags-hit (Hole i) o = refl
  tags-hit (Node f a b) o =
      let s : Fell (Marked D) = step_joining W texts f o (up A a states) (up A b states) in
      let x : Fate = fate_of o s.hit (texts f) in
      let here : List Fate = one_fate (valued f) x in
      let below : List Fate = fates A W valued texts a states s.left in
      let behind : List Fate = fates A W valued texts b states s.right in
      let L : List ℕ = hit_symbols one_algebra value_run [] (tagged a s.left) one_state in
      let R : List ℕ = hit_symbols one_algebra value_run [] (tagged b s.right) one_state in
      let split : map tag_of (here ++ (below ++ behind)) ≡ map tag_of here ++ (map tag_of below ++ map tag_of behind) = map-append tag_of here (below ++ behind) ∙ ap (λ l. map tag_of here ++ l) (map-append tag_of below behind) in
      ap (λ l. l ++ (L ++ R)) (one-tag (valued f) x) ∙ ap (λ l. map tag_of here ++ (l ++ R)) (tags-hit a s.left) ∙ ap (λ l. map tag_of here ++ (map tag_of below ++ l)) (tags-hit b s.right) ∙ sym split

module _ {S D : Type 0} (A : Algebra S) (W : Downward S D) (valued texts : ℕ → Bool) (t new : Term) (made : new ≡ rewritten A (joining_run W texts) (tagging valued texts) t [] (At W.start NoText)) where
  -- the hits among nodes with tags tell the fates
  pub fates-told : (found : List Hit) → numbers found ≡ hits one_algebra value_run new → All (λ h. slice_get (symbols_in new) h.number ≡ Some h.symbol) found → told_fates found ≡ fates A W valued texts t [] (At W.start NoText)
  fates-told found e a =
      let hit : hit_symbols one_algebra value_run [] new one_state ≡ map tag_of (fates A W valued texts t [] (At W.start NoText)) = rw made (tags-hit A W valued texts [] t (At W.start NoText)) in
      told-tags found (fates A W valued texts t [] (At W.start NoText)) (told-symbols one_algebra value_run new one_state found e a ∙ hit)

  pub some-told : (hits : Option (List Hit)) → IfSome hits (λ found. numbers found ≡ hits_from one_algebra value_run 0 new [] one_state) → IfSome hits (λ found. All (λ h. slice_get (symbols_in new) h.number ≡ Some h.symbol) found)
      → IfSome hits (λ found. told_fates found ≡ fates A W valued texts t [] (At W.start NoText))
  some-told None e a = tt
  some-told (Some found) e a = fates-told found e a

  pub as-many : nodes_in new ≡ nodes_in t
  as-many = ap nodes_in made ∙ nodes-tagged A W valued texts [] t (At W.start NoText)
