-- Marks of which some bare ones are left out say the same of texts and attributes.
use Rattle.std.proofs.Common.{◌≡◌, ◌≤◌, ◌<◌, ℕ, List, [], ◌∷◌, ◌++◌, length, Option, Some, None, slice_get, inl, inr, refl, sym, ap, ◌∙◌, subst, arith}
use Rattle.std.specs.Prelude.{◌↔◌}
use Rattle.plain_tree.specs.declared.kind.Kind.{Kind}
use Rattle.plain_tree.specs.declared.kind.Kind.TheVariants.{Document, Element, Attribute, Text, Comment, Instruction}
use Rattle.rule_arena.specs.declared.label.Label.{Label}
use Rattle.rule_arena.specs.declared.label.Label.TheVariants.{Bottom, Symbol, Call, Param}
use Rattle.grammar_file.specs.Marks.{mark_at, marks, valued, Thins}
use Rattle.grammar_file.specs.TextSymbols.{if_valued, text_symbols}
use Rattle.grammar_file.specs.Unlike.{IsNewIn, AreUnlike, GoOn}
use Rattle.grammar_file.specs.declared.attributes.Attributes.{Attributes}
use Rattle.grammar_file.specs.declared.text_lists.Mark.{Mark}
use Rattle.grammar_file.specs.declared.text_lists.Mark.TheVariants.{Valued, Bare}

-- ---- marks that are left out
pub thins-same : (ms : List Mark) → Thins ms ms
thins-same [] = tt
thins-same (m ∷ ms) = (refl, inl (thins-same ms))

pub thins-is : (ws ms : List Mark) → ws ≡ ms → Thins ws ms
thins-is ws ms e = subst (Thins ws) e (thins-same ws)

pub thins-none : (ms : List Mark) → Thins [] ms → ms ≡ []
thins-none [] h = refl
thins-none (m ∷ ms) h = absurd h

pub thins-some : (ws ms : List Mark) → Thins ws ms → 0 < length ms → 0 < length ws
thins-some [] [] h lt = lt
thins-some [] (m ∷ ms) h lt = absurd h
thins-some (w ∷ ws) ms h lt = omega arith

pub some-thins : (ws ms : List Mark) → Thins ws ms → 0 < length ws → 0 < length ms
some-thins [] ms h lt = absurd (omega arith)
some-thins (w ∷ ws) [] h lt = absurd h
some-thins (w ∷ ws) (m ∷ ms) h lt = omega arith

pub thins-length : (ws ms : List Mark) → Thins ws ms → length ws ≤ length ms
thins-length [] [] h = omega arith
thins-length [] (m ∷ ms) h = absurd h
thins-length (w ∷ ws) [] h = absurd h
thins-length (w ∷ ws) (m ∷ ms) (e, inl h) = let l = thins-length ws ms h in omega arith
thins-length (w ∷ ws) (m ∷ ms) (e, inr (b, h)) = let l = thins-length (w ∷ ws) ms h in omega arith

pub thins-over : (us bs cs : List Mark) → Thins us bs → Thins bs cs → Thins us cs
thins-over [] [] cs h k = k
thins-over [] (b ∷ bs) cs h k = absurd h
thins-over (u ∷ us) [] cs h k = absurd h
thins-over (u ∷ us) (b ∷ bs) [] h k = absurd k
thins-over (u ∷ us) (b ∷ bs) (c ∷ cs) (e, inl h) (f, inl k) = (e ∙ f, inl (thins-over us bs cs h k))
thins-over (u ∷ us) (b ∷ bs) (c ∷ cs) (e, inr (bare, h)) (f, inl k) = (e ∙ f, inr (sym f ∙ bare, thins-over (u ∷ us) bs cs h k))
thins-over (u ∷ us) (b ∷ bs) (c ∷ cs) (e, h) (f, inr (bare, k)) = (e ∙ f, inr (bare, thins-over (u ∷ us) (b ∷ bs) cs (e, h) k))

thins-before : (xs ws ms : List Mark) → Thins ws ms → Thins (xs ++ ws) (xs ++ ms)
thins-before [] ws ms h = h
thins-before (x ∷ xs) ws ms h = (refl, inl (thins-before xs ws ms h))

pub thins-behind : (ws ms xs : List Mark) → Thins ws ms → Thins (ws ++ xs) (ms ++ xs)
thins-behind [] [] xs h = thins-same xs
thins-behind [] (m ∷ ms) xs h = absurd h
thins-behind (w ∷ ws) [] xs h = absurd h
thins-behind (w ∷ ws) (m ∷ ms) xs (e, inl h) = (e, inl (thins-behind ws ms xs h))
thins-behind (w ∷ ws) (m ∷ ms) xs (e, inr (b, h)) = (e, inr (b, thins-behind (w ∷ ws) ms xs h))

pub thins-both : (vs ms ws ns : List Mark) → Thins vs ms → Thins ws ns → Thins (vs ++ ws) (ms ++ ns)
thins-both vs ms ws ns h k = thins-over (vs ++ ws) (vs ++ ns) (ms ++ ns) (thins-before vs ws ns k) (thins-behind vs ms ns h)

-- one bare mark behind another
pub thins-bare : (xs : List Mark) → Thins (xs ++ Bare ∷ []) ((xs ++ Bare ∷ []) ++ Bare ∷ [])
thins-bare [] = (refl, inr (refl, thins-same (Bare ∷ [])))
thins-bare (x ∷ xs) = (refl, inl (thins-bare xs))

-- ---- the same texts
pub thins-valued : (ws ms : List Mark) → Thins ws ms → valued ws ≡ valued ms
thins-valued [] [] h = refl
thins-valued [] (m ∷ ms) h = absurd h
thins-valued (w ∷ ws) [] h = absurd h
thins-valued (Bare ∷ ws) (Bare ∷ ms) (e, inl h) = thins-valued ws ms h
thins-valued (Bare ∷ ws) (Bare ∷ ms) (e, inr (b, h)) = thins-valued (Bare ∷ ws) ms h
thins-valued (Bare ∷ ws) (Valued g ∷ ms) (e, h) = cc
thins-valued (Valued f ∷ ws) (Bare ∷ ms) (e, h) = cc
thins-valued (Valued f ∷ ws) (Valued g ∷ ms) (e, inl h) = let s : f ≡ g = cc in ap (λ k. k ∷ valued ws) s ∙ ap (λ xs. g ∷ xs) (thins-valued ws ms h)
thins-valued (Valued f ∷ ws) (Valued g ∷ ms) (e, inr (b, h)) = cc

module _ (names : List (Kind × List ℕ)) where
  pub valued-append : (xs ys : List Mark) → valued (xs ++ ys) ≡ valued xs ++ valued ys
  valued-append [] ys = refl
  valued-append (Valued f ∷ xs) ys = ap (λ zs. f ∷ zs) (valued-append xs ys)
  valued-append (Bare ∷ xs) ys = valued-append xs ys

  valued-at : (pair : Option (Kind × List ℕ)) (f : ℕ) → valued (mark_at pair f) ≡ if_valued pair f
  valued-at None f = refl
  valued-at (Some (Document, n)) f = refl
  valued-at (Some (Element, n)) f = refl
  valued-at (Some (Attribute, n)) f = refl
  valued-at (Some (Text, n)) f = refl
  valued-at (Some (Comment, n)) f = refl
  valued-at (Some (Instruction, n)) f = refl

  pub valued-marks : (ls : List Label) → valued (marks names ls) ≡ text_symbols names ls
  valued-marks [] = refl
  valued-marks (Bottom ∷ ls) = valued-marks ls
  valued-marks (Param ∷ ls) = valued-marks ls
  valued-marks (Call q ∷ ls) = valued-marks ls
  valued-marks (Symbol f ∷ ls) =
      let own = mark_at (slice_get names f) f in
      valued-append own (marks names ls) ∙ ap (λ xs. xs ++ valued (marks names ls)) (valued-at (slice_get names f) f) ∙ ap (λ xs. if_valued (slice_get names f) f ++ xs) (valued-marks ls)

  -- ---- the same attributes
  new-thin : (f : ℕ) (ws ms : List Mark) → Thins ws ms → IsNewIn names f ms → IsNewIn names f ws
  new-thin f [] ms h k = tt
  new-thin f (w ∷ ws) [] h k = absurd h
  new-thin f (Bare ∷ ws) (m ∷ ms) h k = tt
  new-thin f (Valued g ∷ ws) (Bare ∷ ms) (e, h) k = cc
  new-thin f (Valued g ∷ ws) (Valued i ∷ ms) (e, inl h) k =
      let s : i ≡ g = cc in
      let k2 : IsNewIn names f (Valued g ∷ ms) = subst (λ j. IsNewIn names f (Valued j ∷ ms)) s k in
      λ a. ((k2 a).0, new-thin f ws ms h (k2 a).1)
  new-thin f (Valued g ∷ ws) (Valued i ∷ ms) (e, inr (b, h)) k = cc

  new-thick : (f : ℕ) (ws ms : List Mark) → Thins ws ms → IsNewIn names f ws → IsNewIn names f ms
  new-thick f [] [] h k = tt
  new-thick f [] (m ∷ ms) h k = absurd h
  new-thick f (w ∷ ws) [] h k = tt
  new-thick f (w ∷ ws) (Bare ∷ ms) h k = tt
  new-thick f (Bare ∷ ws) (Valued i ∷ ms) (e, h) k = cc
  new-thick f (Valued g ∷ ws) (Valued i ∷ ms) (e, inl h) k =
      let s : g ≡ i = cc in
      let k2 : IsNewIn names f (Valued i ∷ ws) = subst (λ j. IsNewIn names f (Valued j ∷ ws)) s k in
      λ a. ((k2 a).0, new-thick f ws ms h (k2 a).1)
  new-thick f (Valued g ∷ ws) (Valued i ∷ ms) (e, inr (b, h)) k = cc

  unlike-thin : (ws ms : List Mark) → Thins ws ms → AreUnlike names ms → AreUnlike names ws
  unlike-thin [] ms h k = tt
  unlike-thin (w ∷ ws) [] h k = absurd h
  unlike-thin (Bare ∷ ws) (Bare ∷ ms) (e, inl h) k = unlike-thin ws ms h k
  unlike-thin (Bare ∷ ws) (Bare ∷ ms) (e, inr (b, h)) k = unlike-thin (Bare ∷ ws) ms h k
  unlike-thin (Bare ∷ ws) (Valued i ∷ ms) (e, h) k = cc
  unlike-thin (Valued g ∷ ws) (Bare ∷ ms) (e, h) k = cc
  unlike-thin (Valued g ∷ ws) (Valued i ∷ ms) (e, inl h) k =
      let s : i ≡ g = cc in
      let k2 : AreUnlike names (Valued g ∷ ms) = subst (λ j. AreUnlike names (Valued j ∷ ms)) s k in
      ((λ a. new-thin g ws ms h (k2.0 a)), unlike-thin ws ms h k2.1)
  unlike-thin (Valued g ∷ ws) (Valued i ∷ ms) (e, inr (b, h)) k = cc

  unlike-thick : (ws ms : List Mark) → Thins ws ms → AreUnlike names ws → AreUnlike names ms
  unlike-thick [] [] h k = tt
  unlike-thick [] (m ∷ ms) h k = absurd h
  unlike-thick (w ∷ ws) [] h k = tt
  unlike-thick (Bare ∷ ws) (Bare ∷ ms) (e, inl h) k = unlike-thick ws ms h k
  unlike-thick (Bare ∷ ws) (Bare ∷ ms) (e, inr (b, h)) k = unlike-thick (Bare ∷ ws) ms h k
  unlike-thick (Bare ∷ ws) (Valued i ∷ ms) (e, h) k = cc
  unlike-thick (Valued g ∷ ws) (Bare ∷ ms) (e, h) k = cc
  unlike-thick (Valued g ∷ ws) (Valued i ∷ ms) (e, inl h) k =
      let s : g ≡ i = cc in
      let k2 : AreUnlike names (Valued i ∷ ws) = subst (λ j. AreUnlike names (Valued j ∷ ws)) s k in
      ((λ a. new-thick i ws ms h (k2.0 a)), unlike-thick ws ms h k2.1)
  unlike-thick (Valued g ∷ ws) (Valued i ∷ ms) (e, inr (b, h)) k = cc

  pub unlike-same : (ws ms : List Mark) → Thins ws ms → AreUnlike names ms ↔ AreUnlike names ws
  unlike-same ws ms h = (unlike-thin ws ms h, unlike-thick ws ms h)

  pub going-same : (a : Attributes) (ws ms : List Mark) → Thins ws ms → GoOn names a ms ↔ GoOn names a ws
  going-same a ws ms h = (
    (λ g. record { come = λ f c. new-thin f ws ms h (g.come f c); coming = unlike-thin ws ms h g.coming }),
    (λ g. record { come = λ f c. new-thick f ws ms h (g.come f c); coming = unlike-thick ws ms h g.coming }),
  )
