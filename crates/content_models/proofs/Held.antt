-- What a reader of lines holds, with one line more.
use Rattle.std.proofs.Common.{◌≡◌, ◌⊎◌, inl, inr, ℕ, zero, suc, ◌<◌, ◌≤◌, ◌≢◌, List, [], ◌∷◌, ◌++◌, Bool, true, false, Option, Some, None, map, length, reverse, slice_get, refl, ap, sym, ◌∙◌, arith, length-append}
use Rattle.std.specs.Prelude.{nat_le, nat_lt, IfNone, IfSome, is_some}
use Rattle.std.proofs.lemmas.Bool.{leb-true, leb-false, lt-ltb, ltb-true, or_cases, or_left, or_right, false≢true}
use Rattle.std.proofs.lemmas.List.{length-map}
use Rattle.plain_tree.specs.declared.kind.Kind.{Kind}
use Rattle.plain_tree.specs.declared.kind.Kind.TheVariants.{Element}
use Rattle.content_models.specs.declared.line_reading.Line.{Line}
use Rattle.content_models.specs.declared.reading.Reader.{Reader}
use Rattle.content_models.specs.Givens.{given_of, is_large, IsExact}
use Rattle.content_models.specs.Holding.{Keeps, is_past, names_of}
use Rattle.content_models.specs.Lines.{Given}
use Rattle.content_models.specs.Matching.{places}
use Rattle.content_models.specs.Postfix.{model_of_code, names_in_code}
use Rattle.content_models.specs.Rules.{rule_of}
use Rattle.content_models.specs.Schemas.{HasName, HaveOneModel, HasLarge, IsLarge, rules}
use Rattle.content_models.proofs.PostfixCode.{names-exact}

-- names
none_some : (p : Kind × List ℕ) → ◌≡◌ {A = Option (Kind × List ℕ)} None (Some p) → ⊥
none_some p e = cc

some_name : (k l : Kind) (m n : List ℕ) → ◌≡◌ {A = Option (Kind × List ℕ)} (Some (k, m)) (Some (l, n)) → m ≡ n
some_name k l m n e = ap (λ (o : Option (Kind × List ℕ)). elim o [ Some p ↦ p.1 | None ↦ n ]) e

pub has-name : (gs : List Given) (i : ℕ) (name : List ℕ) → slice_get (names_of gs) i ≡ Some (Element, name) → HasName name gs
has-name [] i name e = none_some (Element, name) e
has-name (g ∷ gs) zero name e = inl (some_name Element Element g.name name e)
has-name (g ∷ gs) (suc i) name e = inr (has-name gs i name e)

pub name-has : (gs : List Given) (name : List ℕ) → HasName name gs → (i : ℕ) × (slice_get (names_of gs) i ≡ Some (Element, name))
name-has [] name h = absurd h
name-has (g ∷ gs) name (inl e) = (0, ap (λ n. Some (Element, n)) e)
name-has (g ∷ gs) name (inr h) = let r = name-has gs name h in (suc r.0, r.1)

pub names-more : (gs : List Given) (g : Given) → names_of (gs ++ g ∷ []) ≡ names_of gs ++ (Element, g.name) ∷ []
names-more [] g = refl
names-more (h ∷ gs) g = ap (λ x. (Element, h.name) ∷ x) (names-more gs g)

has-append : (gs : List Given) (g : Given) (name : List ℕ) → HasName name (gs ++ g ∷ []) → HasName name gs ⊎ (g.name ≡ name)
has-append [] g name (inl e) = inr e
has-append [] g name (inr h) = absurd h
has-append (k ∷ gs) g name (inl e) = inl (inl e)
has-append (k ∷ gs) g name (inr h) = elim (has-append gs g name h) [ inl x ↦ inl (inr x) | inr e ↦ inr e ]

has-later : (gs : List Given) (g : Given) (more : List Given) (name : List ℕ) → g.name ≡ name → HasName name (gs ++ g ∷ more)
has-later [] g more name e = inl e
has-later (k ∷ gs) g more name e = inr (has-later gs g more name e)

pub one-more : (gs : List Given) (g : Given) → HaveOneModel gs → (HasName g.name gs → ⊥) → HaveOneModel (gs ++ g ∷ [])
one-more [] g o n = (λ h. h, tt)
one-more (k ∷ gs) g o n =
    (λ h. elim (has-append gs g k.name h) [ inl x ↦ o.0 x | inr e ↦ n (inl (sym e)) ], one-more gs g o.1 (λ h. n (inr h)))

pub two-models : (gs : List Given) (g : Given) (more : List Given) → HasName g.name gs → HaveOneModel (gs ++ g ∷ more) → ⊥
two-models [] g more h o = h
two-models (k ∷ gs) g more (inl e) o = o.0 (has-later gs g more k.name (sym e))
two-models (k ∷ gs) g more (inr h) o = two-models gs g more h o.1

-- limits
abbrev IsPast : Given → Type 0
IsPast g = (64 < places g.model) ⊎ (64 < g.depth)

large-front : (gs : List Given) (g : Given) → HasLarge gs → HasLarge (gs ++ g ∷ [])
large-front [] g h = absurd h
large-front (k ∷ gs) g (inl h) = inl h
large-front (k ∷ gs) g (inr h) = inr (large-front gs g h)

large-last : (gs : List Given) (g : Given) → IsPast g → HasLarge (gs ++ g ∷ [])
large-last [] g h = inl h
large-last (k ∷ gs) g h = inr (large-last gs g h)

large-cases : (gs : List Given) (g : Given) → HasLarge (gs ++ g ∷ []) → HasLarge gs ⊎ IsPast g
large-cases [] g (inl h) = inr h
large-cases [] g (inr h) = absurd h
large-cases (k ∷ gs) g (inl h) = inl (inl h)
large-cases (k ∷ gs) g (inr h) = elim (large-cases gs g h) [ inl x ↦ inl (inr x) | inr x ↦ inr x ]

pub large-more : (gs : List Given) (g : Given) → IsLarge gs → IsLarge (gs ++ g ∷ [])
large-more gs g (inl h) = inl (omega (arith, h, length-append gs (g ∷ [])))
large-more gs g (inr h) = inr (large-front gs g h)

past-line : (l : Line) → IsExact l → is_large l ≡ true → IsPast (given_of l)
past-line l x e = elim (or_cases (nat_lt 64 (names_in_code l.code.items)) (nat_lt 64 l.depth) e) [ inl h ↦ inl (let t = ltb-true 64 (names_in_code l.code.items) h in omega (arith, t, names-exact l x)) | inr h ↦ inr (ltb-true 64 l.depth h) ]

line-past : (l : Line) → IsExact l → is_large l ≡ false → IsPast (given_of l) → ⊥
line-past l x e (inl h) = false≢true (sym e ∙ or_left (nat_lt 64 (names_in_code l.code.items)) (nat_lt 64 l.depth) (lt-ltb 64 (names_in_code l.code.items) (omega (arith, h, names-exact l x))))
line-past l x e (inr h) = false≢true (sym e ∙ or_right (nat_lt 64 (names_in_code l.code.items)) (nat_lt 64 l.depth) (lt-ltb 64 l.depth h))

pub kept-length : (r : Reader) (gs : List Given) → map rule_of r.kept.items ≡ rules gs → length r.kept.items ≡ length gs
kept-length r gs e = sym (length-map r.kept.items rule_of) ∙ ap length e ∙ length-map gs (λ g. (g.name, g.model))

pub keeps-large : (r : Reader) (gs : List Given) (g : Given) → r.large ≡ true → Keeps r gs → Keeps r (gs ++ g ∷ [])
keeps-large r gs g e k = record {
  large = λ _. large-more gs g (k.large e);
  small = λ f. absurd (false≢true (sym f ∙ e));
  kept = λ f. absurd (false≢true (sym f ∙ e));
}

pub keeps-past : (r s : Reader) (gs : List Given) (l : Line) → IsExact l → r.large ≡ false → s.large ≡ true → is_past r l ≡ true → Keeps r gs → Keeps s (gs ++ given_of l ∷ [])
keeps-past r s gs l x e f p k = record {
  large = λ _. by_side (or_cases (nat_le 64 (length r.kept.items)) (is_large l) p);
  small = λ g. absurd (false≢true (sym g ∙ f));
  kept = λ g. absurd (false≢true (sym g ∙ f));
}
  where
    by_side : (nat_le 64 (length r.kept.items) ≡ true) ⊎ (is_large l ≡ true) → IsLarge (gs ++ given_of l ∷ [])
    by_side (inl h) = inl (let t = leb-true 64 (length r.kept.items) h in omega (arith, t, kept-length r gs (k.kept e), length-append gs (given_of l ∷ [])))
    by_side (inr h) = inr (large-last gs (given_of l) (past-line l x h))

pub past-parts : (r : Reader) (l : Line) → is_past r l ≡ false → (length r.kept.items < 64) × (is_large l ≡ false)
past-parts r l e = (few (nat_le 64 (length r.kept.items)) refl, small (is_large l) refl) where
  small : (b : Bool) → is_large l ≡ b → is_large l ≡ false
  small false f = f
  small true f = absurd (false≢true (sym e ∙ or_right (nat_le 64 (length r.kept.items)) (is_large l) f))

  few : (b : Bool) → nat_le 64 (length r.kept.items) ≡ b → length r.kept.items < 64
  few false f = leb-false 64 (length r.kept.items) f
  few true f = absurd (false≢true (sym e ∙ or_left (nat_le 64 (length r.kept.items)) (is_large l) f))

pub rules-more : (gs : List Given) (g : Given) → rules (gs ++ g ∷ []) ≡ rules gs ++ (g.name, g.model) ∷ []
rules-more [] g = refl
rules-more (h ∷ gs) g = ap (λ x. (h.name, h.model) ∷ x) (rules-more gs g)

pub keeps-push : (r s : Reader) (gs : List Given) (l : Line) → IsExact l → r.large ≡ false → s.large ≡ false → is_past r l ≡ false
    → map rule_of s.kept.items ≡ map rule_of r.kept.items ++ (l.name, model_of_code (reverse l.code.items)) ∷ [] → Keeps r gs → Keeps s (gs ++ given_of l ∷ [])
keeps-push r s gs l x e f p m k = record {
  large = λ g. absurd (false≢true (sym f ∙ g));
  small = λ _ h. not_large h;
  kept = λ _. m ∙ ap (λ z. z ++ (l.name, model_of_code (reverse l.code.items)) ∷ []) (k.kept e) ∙ sym (rules-more gs (given_of l));
}
  where
    parts : (length r.kept.items < 64) × (is_large l ≡ false)
    parts = past-parts r l p

    not_large : IsLarge (gs ++ given_of l ∷ []) → ⊥
    not_large (inl h) = omega (arith, h, parts.0, kept-length r gs (k.kept e), length-append gs (given_of l ∷ []))
    not_large (inr h) = elim (large-cases gs (given_of l) h) [ inl y ↦ k.small e (inr y) | inr y ↦ line-past l x parts.1 y ]

-- what a search for a name in the table tells
pub missing-name : (seen : List (Kind × List ℕ)) (gs : List Given) (n name : List ℕ) (o : Option ℕ) → n ≡ name → seen ≡ names_of gs → IfNone o ((i : ℕ) → slice_get seen i ≢ Some (Element, n)) → is_some o ≡ false
    → HasName name gs → ⊥
missing-name seen gs n name None e s f h has =
    let r = name-has gs name has in f r.0 (ap (λ x. slice_get x r.0) s ∙ r.1 ∙ ap (λ x. Some (Element, x)) (sym e))
missing-name seen gs n name (Some i) e s f h has = absurd (false≢true (sym h))

pub found-name : (seen : List (Kind × List ℕ)) (gs : List Given) (n name : List ℕ) (o : Option ℕ) → n ≡ name → seen ≡ names_of gs → IfSome o (λ i. slice_get seen i ≡ Some (Element, n)) → is_some o ≡ true → HasName name gs
found-name seen gs n name (Some i) e s f h = has-name gs i name (ap (λ x. slice_get x i) (sym s) ∙ f ∙ ap (λ x. Some (Element, x)) e)
found-name seen gs n name None e s f h = absurd (false≢true h)

pub few-places : (l : Line) → IsExact l → is_large l ≡ false → places (given_of l).model ≤ 64
few-places l x e = few (nat_le (places (given_of l).model) 64) refl where
  few : (b : Bool) → nat_le (places (given_of l).model) 64 ≡ b → places (given_of l).model ≤ 64
  few true f = leb-true (places (given_of l).model) 64 f
  few false f = absurd (line-past l x e (inl (leb-false (places (given_of l).model) 64 f)))
