-- What a line gives.
use Rattle.std.proofs.Common.{◌≡◌, ℕ, List, [], ◌∷◌, Bool, true, false, Option, Some, None, refl, sym, ap, subst, ◌∙◌, if◌then◌else◌}
use Rattle.std.proofs.lemmas.Bool.{eq-eqb, eqb-true, false≢true, false_from_ne_true}
use Rattle.std.specs.Prelude.{◌==◌}
use Rattle.plain_tree.specs.XmlNames.{are_chars, is_name, is_name_char, is_name_start}
use Rattle.xml_tokens.specs.Cutting.{front, back}
use Rattle.xml_tokens.specs.NameBytes.{is_name_byte}
use Rattle.xml_tokens.proofs.Texts.{not_named}
use Rattle.content_models.specs.Givens.{comment}
use Rattle.content_models.specs.Lines.{Given, Gives, IsComment, IsLine, SpellsModel}
use Rattle.content_models.specs.Tokens.{behind_equals, is_blank, name_at}
use Rattle.content_models.proofs.Feeding.{model-one}

empty-unnamed : is_name [] ≡ false
empty-unnamed = false_from_ne_true (is_name []) not_named

-- no name begins with a number sign
hash-front : (cs : List ℕ) → front is_name_byte (35 ∷ cs) ≡ []
unfolding is_name_char is_name_start
hash-front cs = refl

pub hash-unnamed : (cs : List ℕ) → name_at (35 ∷ cs) ≡ None
unfolding name_at
hash-unnamed cs = ap (λ b. if b then Some (front is_name_byte (35 ∷ cs), back is_name_byte (35 ∷ cs)) else None) (ap is_name (hash-front cs) ∙ empty-unnamed)

pub nothing-unnamed : name_at [] ≡ None
unfolding name_at
nothing-unnamed = ap (λ b. if b then Some ([], []) else None) empty-unnamed

none_some : (p : List ℕ × List ℕ) → ◌≡◌ {A = Option (List ℕ × List ℕ)} None (Some p) → ⊥
none_some p e = cc

some_bool : (a b : Bool) → Some a ≡ Some b → a ≡ b
some_bool a b e = cc

none_bool : (b : Bool) → ◌≡◌ {A = Option Bool} None (Some b) → ⊥
none_bool b e = cc

given-unnamed : (rest : List ℕ) (g : Given) → name_at rest ≡ None → Gives rest g → ⊥
given-unnamed rest g e h = none_some (g.name, h.behind) (sym e ∙ h.named)

-- where a number sign stands at the front nothing is given
comment-gives : (rest : List ℕ) (b : Bool) (g : Given) → comment rest ≡ Some b → Gives rest g → ⊥
comment-gives [] b g e h = given-unnamed [] g nothing-unnamed h
comment-gives (c ∷ cs) b g e h = by_sign (c == 35) refl where
  by_sign : (x : Bool) → (c == 35) ≡ x → ⊥
  by_sign true f = given-unnamed (c ∷ cs) g (ap (λ n. name_at (n ∷ cs)) (eqb-true c 35 f) ∙ hash-unnamed cs) h
  by_sign false f = none_bool b (sym (ap (λ x. if x then Some (are_chars cs) else None) f) ∙ e)

comment-told : (rest : List ℕ) (b : Bool) → comment rest ≡ Some b → IsComment rest → b ≡ true
comment-told [] b e h = some_bool b true (sym e)
comment-told (c ∷ cs) b e h =
    some_bool b true (sym e ∙ ap (λ x. if x then Some (are_chars cs) else None) (eq-eqb c 35 h.0) ∙ ap Some h.1)

pub comment-bad : (line : List ℕ) (gs : List Given) → comment (back is_blank line) ≡ Some false → IsLine line gs → ⊥
comment-bad line [] e h = false≢true (comment-told (back is_blank line) false e h)
comment-bad line (g ∷ []) e h = comment-gives (back is_blank line) false g e h
comment-bad line (g ∷ k ∷ gs) e h = h

some_parts : (p q : List ℕ × List ℕ) → Some p ≡ Some q → p ≡ q
some_parts p q e = cc

some_part : (p q : List ℕ) → Some p ≡ Some q → p ≡ q
some_part p q e = cc

-- the right side of a line
pub given-right : (rest name behind right : List ℕ) → name_at rest ≡ Some (name, behind) → behind_equals (back is_blank behind) ≡ Some right → (g : Given) → Gives rest g → SpellsModel right g.model g.depth
given-right rest name behind right e f g h =
    let same = some_parts (g.name, h.behind) (name, behind) (sym h.named ∙ e) in
    subst (λ x. SpellsModel x g.model g.depth)
    (some_part h.right right (sym h.equals ∙ ap (λ p. behind_equals (back is_blank p.1)) same ∙ f)) h.spelled

comment-none : (rest : List ℕ) (g : Given) → IsComment rest → Gives rest g → ⊥
comment-none [] g i h = given-unnamed [] g nothing-unnamed h
comment-none (c ∷ cs) g i h = given-unnamed (c ∷ cs) g (ap (λ n. name_at (n ∷ cs)) i.0 ∙ hash-unnamed cs) h

given-one : (rest : List ℕ) (g h : Given) → Gives rest g → Gives rest h → g ≡ h
given-one rest g h x y =
    let names = some_parts (g.name, x.behind) (h.name, y.behind) (sym x.named ∙ y.named) in
    let right = given-right rest h.name y.behind y.right y.named y.equals g x in
    let same = model-one y.right g.model h.model g.depth h.depth right y.spelled in
    λ i. record { name = (names i).0; model = same.0 i; depth = same.1 i }

-- a line gives one thing
pub line-one : (line : List ℕ) (gs hs : List Given) → IsLine line gs → IsLine line hs → gs ≡ hs
line-one line [] [] x y = refl
line-one line [] (h ∷ []) x y = absurd (comment-none (back is_blank line) h x y)
line-one line [] (h ∷ k ∷ hs) x y = absurd y
line-one line (g ∷ []) [] x y = absurd (comment-none (back is_blank line) g y x)
line-one line (g ∷ []) (h ∷ []) x y = ap (λ z. z ∷ []) (given-one (back is_blank line) g h x y)
line-one line (g ∷ []) (h ∷ k ∷ hs) x y = absurd y
line-one line (g ∷ k ∷ gs) hs x y = absurd x
