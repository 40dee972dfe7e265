-- The lines of a schema are read one by one.
use Rattle.std.proofs.Common.{◌≡◌, ◌≤◌, inl, ℕ, ◌+◌, List, [], ◌∷◌, ◌++◌, Option, Some, None, Bool, true, false, map, take, ◌-◌, length, refl, ap, sym, subst, ◌∙◌, append_assoc, arith}
use Rattle.std.specs.Prelude.{nat_le, IfOk, Result, Ok, Err}
use Rattle.content_models.specs.declared.schema.Schema.{Schema}
use Rattle.std.proofs.lemmas.Bool.{leb-true, leb-false}
use Rattle.std.proofs.lemmas.List.{append-nil}
use Rattle.xml_tokens.specs.Cutting.{front, back, is_other}
use Rattle.content_models.specs.declared.reading.Reader.{Reader}
use Rattle.content_models.specs.Holding.{Holds, Refused, TakesLine}
use Rattle.content_models.specs.Lines.{Given, IsLine, AreLines, no_line, one_line, behind_feed}
use Rattle.content_models.specs.Rules.{rule_of, rules_of}
use Rattle.content_models.specs.Schemas.{HaveOneModel, IsLarge, SpellsSchema, rules}
use Rattle.content_models.specs.Schemas.{HasName}
use Rattle.xml_tokens.proofs.Lists.{take-front}
use Rattle.content_models.specs.declared.line_reading.Line.{Line}
use Rattle.content_models.specs.declared.error.SchemaError.{SchemaError}
use Rattle.content_models.specs.declared.error.SchemaError.TheVariants as schema
use Rattle.content_models.specs.declared.error.ReadError.{ReadError}
use Rattle.content_models.specs.declared.error.ReadError.TheVariants as read
use Rattle.content_models.specs.Errors.{as_schema}
use Rattle.content_models.specs.Givens.{given_by, given_of}
use Rattle.content_models.proofs.GivenLines.{line-one}
use Rattle.content_models.proofs.Held.{kept-length, one-more, two-models}

abbrev first_of : List ℕ → List ℕ
first_of = front (is_other 10)

abbrev rest_of : List ℕ → Option (List ℕ)
rest_of bytes = behind_feed (back (is_other 10) bytes)

none_some : (x : List ℕ) → ◌≡◌ {A = Option (List ℕ)} None (Some x) → ⊥
none_some x e = cc

some_same : (x y : List ℕ) → Some x ≡ Some y → x ≡ y
some_same x y e = cc

-- what the first line gives, and those behind it
record Cut (bytes : List ℕ) (all : List Given) : Type 0 where
  given : List Given
  more : List Given
  line : IsLine (first_of bytes) given
  behind : AreLines (rest_of bytes) more
  whole : all ≡ given ++ more

lines-cut : (x : Option (List ℕ)) (all : List Given) → AreLines x all → (bytes : List ℕ) → x ≡ Some bytes → Cut bytes all
lines-cut _ _ no_line bytes e = absurd (none_some bytes e)
lines-cut _ _ (one_line own gs more i r) bytes e =
    let same = some_same own bytes e in
    record { given = gs; more = more; line = subst (λ b. IsLine (first_of b) gs) same i; behind = subst (λ b. AreLines (rest_of b) more) same r; whole = refl }

none-left : (x : Option (List ℕ)) (gs : List Given) → AreLines x gs → x ≡ None → gs ≡ []
none-left _ _ no_line e = refl
none-left _ _ (one_line own gs more i r) e = absurd (none_some own (sym e))

-- bytes have one list of lines
pub lines-one : (x : Option (List ℕ)) (gs hs : List Given) → AreLines x gs → AreLines x hs → gs ≡ hs
lines-one _ _ hs no_line h = sym (none-left None hs h refl)
lines-one _ _ hs (one_line bytes gs more i r) h =
    let c = lines-cut (Some bytes) hs h bytes refl in
    ap (λ x. x ++ more) (line-one (first_of bytes) gs c.given i c.line) ∙ ap (λ x. c.given ++ x) (lines-one (rest_of bytes) more c.more r c.behind) ∙ sym c.whole

-- the lines up to there were read
pub record Lines (bytes : List ℕ) (rest : Option (List ℕ)) (r : Reader) : Type 0 where
  pub done : List Given
  pub on : (more : List Given) → AreLines rest more → AreLines (Some bytes) (done ++ more)
  pub off : (all : List Given) → AreLines (Some bytes) all → (more : List Given) × AreLines rest more × (all ≡ done ++ more)
  pub holds : Holds r done
  pub one : HaveOneModel done

pub lines-begin : (bytes : List ℕ) (r : Reader) → Holds r [] → Lines bytes (Some bytes) r
lines-begin bytes r h = record { done = []; on = λ more l. l; off = λ all l. (all, l, refl); holds = h; one = tt }

-- one line more
pub lines-on : (bytes lines : List ℕ) (next : Option (List ℕ)) (r s : Reader) → TakesLine lines r s next → Lines bytes (Some lines) r → Lines bytes next s
lines-on bytes lines next r s t l = record {
  done = l.done ++ t.given;
  on = λ more a.
      subst (AreLines (Some bytes)) (sym (append_assoc l.done t.given more))
      (l.on (t.given ++ more) (one_line lines t.given more t.line (subst (λ x. AreLines x more) t.rest a)));
  off = λ all a.
      let v = l.off all a in
      let c = lines-cut (Some lines) v.0 v.1 lines refl in
      let same = line-one (first_of lines) c.given t.given c.line t.line in
      (c.more, subst (λ x. AreLines x c.more) (sym t.rest) c.behind, v.2 ∙ ap (λ x. l.done ++ x) (c.whole ∙ ap (λ x. x ++ c.more) same) ∙ sym (append_assoc l.done t.given c.more));
  holds = t.holds l.done l.holds;
  one = t.one l.done l.holds l.one;
}

pub lines-refused : (bytes lines : List ℕ) (r : Reader) → Refused lines r → Lines bytes (Some lines) r → (gs : List Given) → SpellsSchema bytes gs → ⊥
lines-refused bytes lines r f l gs s =
    let v = l.off gs s.0 in
    let c = lines-cut (Some lines) v.0 v.1 lines refl in
    f l.done c.given c.more l.holds c.line (subst HaveOneModel (v.2 ∙ ap (λ x. l.done ++ x) c.whole) s.1)

pub lines-spelled : (bytes : List ℕ) (rest : Option (List ℕ)) (r : Reader) → rest ≡ None → (l : Lines bytes rest r) → SpellsSchema bytes l.done
lines-spelled bytes rest r e l = (subst (AreLines (Some bytes)) (append-nil l.done) (l.on [] (subst (λ x. AreLines x []) (sym e) no_line)), l.one)

-- a schema is spelled in one way
pub spelled-one : (bytes : List ℕ) (gs hs : List Given) → SpellsSchema bytes gs → SpellsSchema bytes hs → gs ≡ hs
spelled-one bytes gs hs a b = lines-one (Some bytes) gs hs a.0 b.0

pub lines-few : (bytes : List ℕ) (rest : Option (List ℕ)) (r : Reader) → Lines bytes rest r → r.large ≡ false → length r.kept.items ≤ 64
lines-few bytes rest r l e = few (nat_le (length r.kept.items) 64) refl where
  few : (b : Bool) → nat_le (length r.kept.items) 64 ≡ b → length r.kept.items ≤ 64
  few true f = leb-true (length r.kept.items) 64 f
  few false f = absurd (l.holds.keeps.small e (inl (let t = leb-false (length r.kept.items) 64 f in omega (arith, t, kept-length r l.done (l.holds.keeps.kept e)))))

-- how many bytes are left, and a line
abbrev pub left : Option (List ℕ) → ℕ
left None = 0
left (Some bytes) = length bytes + 1

-- the line that was cut off is the first
abbrev cut_of : List ℕ → List ℕ → List ℕ
cut_of lines after = take (length lines - length after) lines

cut-first : (lines after : List ℕ) → after ≡ back (is_other 10) lines → cut_of lines after ≡ first_of lines
cut-first lines after e = ap (cut_of lines) e ∙ take-front (is_other 10) lines

pub takes-none : (lines after : List ℕ) (r : Reader) (next : Option (List ℕ)) (o : Option Line) → o ≡ None → after ≡ back (is_other 10) lines → next ≡ behind_feed after → IsLine (cut_of lines after) (given_by o) → TakesLine lines r r next
takes-none lines after r next o is e n i = record {
  given = [];
  line = subst (λ x. IsLine x []) (cut-first lines after e) (subst (λ x. IsLine (cut_of lines after) (given_by x)) is i);
  rest = n ∙ ap behind_feed e;
  holds = λ gs h. subst (Holds r) (sym (append-nil gs)) h;
  one = λ gs h o. subst HaveOneModel (sym (append-nil gs)) o;
}

pub takes-some : (lines after : List ℕ) (r s : Reader) (next : Option (List ℕ)) (o : Option Line) (l : Line) → o ≡ Some l → after ≡ back (is_other 10) lines → next ≡ behind_feed after → IsLine (cut_of lines after) (given_by o)
    → ((gs : List Given) → Holds r gs → Holds s (gs ++ given_of l ∷ [])) → ((gs : List Given) → Holds r gs → HasName l.name gs → ⊥) → TakesLine lines r s next
takes-some lines after r s next o l is e n i held new = record {
  given = given_of l ∷ [];
  line = subst (λ x. IsLine x (given_of l ∷ [])) (cut-first lines after e) (subst (λ x. IsLine (cut_of lines after) (given_by x)) is i);
  rest = n ∙ ap behind_feed e;
  holds = held;
  one = λ gs h o. one-more gs (given_of l) o (new gs h);
}

pub refused-line : (lines after : List ℕ) (r : Reader) → after ≡ back (is_other 10) lines → ((gs : List Given) → IsLine (cut_of lines after) gs → ⊥) → Refused lines r
refused-line lines after r e bad = λ gs given more h i o. bad given (subst (λ x. IsLine x given) (sym (cut-first lines after e)) i)

pub refused-name : (lines after : List ℕ) (r : Reader) (o : Option Line) (l : Line) → o ≡ Some l → after ≡ back (is_other 10) lines → IsLine (cut_of lines after) (given_by o) → ((gs : List Given) → Holds r gs → HasName l.name gs) → Refused lines r
refused-name lines after r o l is e i old = λ gs given more h j o.
    let same = line-one (first_of lines) given (given_of l ∷ []) j (subst (λ x. IsLine x (given_of l ∷ [])) (cut-first lines after e) (subst (λ x. IsLine (cut_of lines after) (given_by x)) is i)) in
    two-models gs (given_of l) more (old gs h) (subst (λ x. HaveOneModel (gs ++ (x ++ more))) same o)

pub error-bad : (e : ReadError) (s : SchemaError) → s ≡ as_schema e → s ≡ schema.Bad → e ≡ read.Bad
error-bad read.Bad s f g = refl
error-bad read.Memory s f g = absurd (different (sym f ∙ g)) where
  different : schema.Memory ≡ schema.Bad → ⊥
  different h = cc

pub lines-answer : (bytes : List ℕ) (rest : Option (List ℕ)) (r : Reader) (result : Result Schema SchemaError) → rest ≡ None → Lines bytes rest r
    → IfOk result (λ s. (r.large ≡ false) × (rules_of s ≡ map rule_of r.kept.items)) → IfOk result (λ s. (gs : List Given) × SpellsSchema bytes gs × (rules_of s ≡ rules gs))
lines-answer bytes rest r (Ok s) e l h = (l.done, lines-spelled bytes rest r e l, h.1 ∙ l.holds.keeps.kept h.0)
lines-answer bytes rest r (Err x) e l h = tt

pub lines-large : (bytes : List ℕ) (rest : Option (List ℕ)) (r : Reader) → rest ≡ None → Lines bytes rest r → r.large ≡ true
    → ((gs : List Given) × SpellsSchema bytes gs) × ((gs : List Given) → SpellsSchema bytes gs → IsLarge gs)
lines-large bytes rest r e l h =
    let own = lines-spelled bytes rest r e l in
    ((l.done, own), λ gs s. subst IsLarge (spelled-one bytes l.done gs own s) (l.holds.keeps.large h))
