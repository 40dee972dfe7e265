-- DOCTYPEs are spelled exactly where their reader finds them.
use Rattle.std.proofs.Common.{◌≡◌, inl, inr, ℕ, Bool, true, cond, List, [], ◌∷◌, ◌++◌, refl, ap, sym, ◌∙◌, subst, append_assoc}
use Rattle.std.specs.Prelude.{codes, Option, Some, None, if◌then◌else◌}
use Rattle.plain_tree.specs.XmlNames.{is_space, are_spaces, begins_space, is_white, are_chars}
use Rattle.xml_tokens.specs.NameBytes.{is_name_byte}
use Rattle.xml_tokens.specs.Cutting.{front, back, behind, Begins}
use Rattle.xml_tokens.specs.Declarations.{IsLiteral, IsNamed, IsExternal, IsDoctype, Maybe, are_public}
use Rattle.xml_tokens.specs.TokenAt.{space_at, quoted_at, passed_at, literal_at, public_at, external_at, otherwise, behind_doctype, doctype_end, name_at}
use Rattle.xml_tokens.proofs.Lists.{Stops, back-append, front-back, list_all-front, chosen_some, behind_whole}
use Rattle.xml_tokens.proofs.Parts.{some_same, space_is, space_was, quoted_is, quoted_was, quoted_stops, white_spaces, white_begins, front_white, name_is, name_was, stops_name, stops_spaces, no_name_byte}
use Rattle.xml_tokens.proofs.Tagging.{white_stops}
use Rattle.xml_tokens.proofs.Attributing.{then_some}
use Rattle.xml_tokens.proofs.Declaring.{end_some}

module _ (test : List ℕ → Bool) where
  literal_is : (x rest : List ℕ) → IsLiteral test x → literal_at test (x ++ rest) ≡ Some rest
  unfolding literal_at
  literal_is x rest i =
      let cut : x ++ rest ≡ i.space ++ (i.quotes ++ rest) = ap (λ z. z ++ rest) i.whole ∙ append_assoc i.space i.quotes rest in
      rw (cut, space_is i.space (i.quotes ++ rest) i.spaced (quoted_stops i.inner i.quotes rest i.quoted), quoted_is i.inner i.quotes rest i.quoted, i.lawful) refl

  literal : (s start rest : List ℕ) (o : Option (List ℕ × List ℕ)) → space_at s ≡ Some start → quoted_at start ≡ o → passed_at test o ≡ Some rest → Begins (IsLiteral test) s rest
  literal s start rest None e q f = cc
  literal s start rest (Some (inner, after)) e q f =
      let found = chosen_some (test inner) (Some after) rest f in
      let white = space_was s start e in
      let k = quoted_was start inner after q in
      subst (λ z. Begins (IsLiteral test) s z) (some_same after rest found.1) (record {
        text = white.0 ++ k.text;
        spelled = record { space = white.0; spaced = white.1; inner = inner; lawful = found.0; quotes = k.text; quoted = k.spelled; whole = refl };
        whole = white.2 ∙ ap (λ z. white.0 ++ z) k.whole ∙ sym (append_assoc white.0 k.text after);
      })

  literal_was : (s rest : List ℕ) → literal_at test s ≡ Some rest → Begins (IsLiteral test) s rest
  unfolding literal_at
  literal_was s rest e =
      let start = then_some (space_at s) _ rest e in
      literal s start.0 rest (quoted_at start.0) start.1 refl start.2

public_is : (public system rest : List ℕ) → IsLiteral are_public public → IsLiteral are_chars system → public_at (public ++ (system ++ rest)) ≡ Some rest
unfolding public_at
public_is public system rest p q = rw (literal_is are_public public (system ++ rest) p, literal_is are_chars system rest q) refl

-- by what stands behind the words
abbrev pub external_by : List ℕ → Option (List ℕ) → Option (List ℕ) → Option (List ℕ)
external_by bytes system public =
    otherwise system (λ rest. if begins_space bytes then literal_at are_chars rest else None)
    (otherwise public (λ rest. if begins_space bytes then public_at rest else None) (Some bytes))

external_here : (s start : List ℕ) → back is_space s ≡ start → external_at s ≡ external_by s (behind (codes "SYSTEM") start) (behind (codes "PUBLIC") start)
unfolding external_at
external_here s start e = ap (λ z. external_by s (behind (codes "SYSTEM") z) (behind (codes "PUBLIC") z)) e

external_is : (x space : List ℕ) → Maybe IsExternal x → are_spaces space ≡ true → external_at (x ++ (space ++ 62 ∷ [])) ≡ Some (space ++ 62 ∷ [])
external_is x space (inl e) spaced =
    ap (λ z. external_at (z ++ (space ++ 62 ∷ []))) e ∙ external_here (space ++ 62 ∷ []) (62 ∷ []) (back-append is_space space (62 ∷ []) spaced refl)
external_is x space (inr i) spaced =
    ap external_at (ap (λ z. z ++ (space ++ 62 ∷ [])) i.whole ∙ append_assoc i.space i.named (space ++ 62 ∷ [])) ∙ named_is i.space i.named (space ++ 62 ∷ []) i.spaced i.is_named where
      named_is : (a named rest : List ℕ) → is_white a ≡ true → IsNamed named → external_at (a ++ (named ++ rest)) ≡ Some rest
      named_is a named rest w (inl (system, q, e)) =
          let cut : a ++ (named ++ rest) ≡ a ++ ((codes "SYSTEM") ++ (system ++ rest)) = ap (λ z. a ++ (z ++ rest)) e in
          ap external_at cut
          ∙ external_here (a ++ ((codes "SYSTEM") ++ (system ++ rest))) ((codes "SYSTEM") ++ (system ++ rest)) (back-append is_space a ((codes "SYSTEM") ++ (system ++ rest)) (white_spaces a w) refl)
          ∙ rw (white_begins a ((codes "SYSTEM") ++ (system ++ rest)) w) (literal_is are_chars system rest q)
      named_is a named rest w (inr (public, system, p, q, e)) =
          let cut : a ++ (named ++ rest) ≡ a ++ ((codes "PUBLIC") ++ (public ++ (system ++ rest))) = ap (λ z. a ++ (z ++ rest)) e ∙ ap (λ z. a ++ ((codes "PUBLIC") ++ z)) (append_assoc public system rest) in
          ap external_at cut
          ∙ external_here (a ++ ((codes "PUBLIC") ++ (public ++ (system ++ rest)))) ((codes "PUBLIC") ++ (public ++ (system ++ rest)))
          (back-append is_space a ((codes "PUBLIC") ++ (public ++ (system ++ rest))) (white_spaces a w) refl)
          ∙ rw (white_begins a ((codes "PUBLIC") ++ (public ++ (system ++ rest))) w) (public_is public system rest p q)

-- a named external, behind white space that was skipped
external_made : (s start named after : List ℕ) → back is_space s ≡ start → begins_space s ≡ true → IsNamed named → start ≡ named ++ after → Begins (Maybe IsExternal) s after
external_made s start named after at b is whole = record {
  text = front is_space s ++ named;
  spelled = inr (record { space = front is_space s; spaced = front_white s b; named = named; is_named = is; whole = refl });
  whole = sym (front-back is_space s) ∙ ap (λ z. front is_space s ++ z) (at ∙ whole) ∙ sym (append_assoc (front is_space s) named after);
}

system_was : (s start rest after : List ℕ) → back is_space s ≡ start → behind (codes "SYSTEM") start ≡ Some rest → (cond (begins_space s) (literal_at are_chars rest) None) ≡ Some after
    → Begins (Maybe IsExternal) s after
system_was s start rest after at e f =
    let found = chosen_some (begins_space s) (literal_at are_chars rest) after f in
    let q = literal_was are_chars rest after found.1 in
    external_made s start ((codes "SYSTEM") ++ q.text) after at found.0 (inl (q.text, q.spelled, refl))
    (behind_whole (codes "SYSTEM") start rest e ∙ ap (λ z. (codes "SYSTEM") ++ z) q.whole ∙ sym (append_assoc (codes "SYSTEM") q.text after))

public_was : (s start rest after : List ℕ) → back is_space s ≡ start → behind (codes "PUBLIC") start ≡ Some rest → (cond (begins_space s) (public_at rest) None) ≡ Some after
    → Begins (Maybe IsExternal) s after
unfolding public_at
public_was s start rest after at e f =
    let found = chosen_some (begins_space s) (public_at rest) after f in
    let mid = then_some (literal_at are_public rest) _ after found.1 in
    let p = literal_was are_public rest mid.0 mid.1 in
    let q = literal_was are_chars mid.0 after mid.2 in
    external_made s start ((codes "PUBLIC") ++ (p.text ++ q.text)) after at found.0 (inr (p.text, q.text, p.spelled, q.spelled, refl))
    (behind_whole (codes "PUBLIC") start rest e ∙ ap (λ z. (codes "PUBLIC") ++ z) (p.whole ∙ ap (λ z. p.text ++ z) q.whole) ∙ sym (simp append_assoc))

external_was_by : (s start after : List ℕ) (a b : Option (List ℕ)) → back is_space s ≡ start → behind (codes "SYSTEM") start ≡ a → behind (codes "PUBLIC") start ≡ b → external_by s a b ≡ Some after
    → Begins (Maybe IsExternal) s after
external_was_by s start after (Some x) b at e f g = system_was s start x after at e g
external_was_by s start after None (Some x) at e f g = public_was s start x after at f g
external_was_by s start after None None at e f g = record { text = []; spelled = inl refl; whole = some_same s after g }

external_was : (s after : List ℕ) → external_at s ≡ Some after → Begins (Maybe IsExternal) s after
external_was s after e =
    external_was_by s (back is_space s) after (behind (codes "SYSTEM") (back is_space s)) (behind (codes "PUBLIC") (back is_space s)) refl refl refl (sym (external_here s (back is_space s) refl) ∙ e)

external_stops : (x space : List ℕ) → Maybe IsExternal x → are_spaces space ≡ true → Stops is_name_byte (x ++ (space ++ 62 ∷ []))
external_stops x space (inl e) spaced = subst (λ z. Stops is_name_byte (z ++ (space ++ 62 ∷ []))) (sym e) (stops_spaces space (62 ∷ []) spaced no_name_byte.6)
external_stops x space (inr i) spaced =
    subst (Stops is_name_byte) (sym (ap (λ z. z ++ (space ++ 62 ∷ [])) i.whole ∙ append_assoc i.space i.named (space ++ 62 ∷ []))) (white_stops i.space (i.named ++ (space ++ 62 ∷ [])) i.spaced)

pub doctype_is : (x : List ℕ) (i : IsDoctype x) → doctype_end (i.start ++ (i.name ++ (i.external ++ (i.space ++ 62 ∷ [])))) ≡ true
unfolding doctype_end behind_doctype
doctype_is x i =
    rw (
      space_is i.start (i.name ++ (i.external ++ (i.space ++ 62 ∷ []))) i.started (stops_name i.name (i.external ++ (i.space ++ 62 ∷ [])) i.named),
      name_is i.name (i.external ++ (i.space ++ 62 ∷ [])) i.named (external_stops i.external i.space i.given i.spaced),
      external_is i.external i.space i.given i.spaced,
      back-append is_space i.space (62 ∷ []) i.spaced refl,
    ) refl

pub doctype_was : (s : List ℕ) → doctype_end s ≡ true → IsDoctype (60 ∷ 33 ∷ 68 ∷ 79 ∷ 67 ∷ 84 ∷ 89 ∷ 80 ∷ 69 ∷ s)
unfolding doctype_end behind_doctype
doctype_was s e =
    let end = end_some (62 ∷ []) _ e in
    let start = then_some (space_at s) _ end.0 end.1 in
    let named = then_some (name_at start.0) _ end.0 start.2 in
    let white = space_was s start.0 start.1 in
    let n = name_was start.0 named.0.0 named.0.1 named.1 in
    let x = external_was named.0.1 end.0 named.2 in
    record {
      start = white.0;
      started = white.1;
      name = named.0.0;
      named = n.0;
      external = x.text;
      given = x.spelled;
      space = front is_space end.0;
      spaced = list_all-front is_space end.0;
      whole =
          ap (λ z. 60 ∷ 33 ∷ 68 ∷ 79 ∷ 67 ∷ 84 ∷ 89 ∷ 80 ∷ 69 ∷ z) (white.2
          ∙ ap (λ z. white.0 ++ z) (n.1 ∙ ap (λ z. named.0.0 ++ z) (x.whole ∙ ap (λ z. x.text ++ z) (sym (front-back is_space end.0) ∙ ap (λ z. front is_space end.0 ++ z) end.2))));
    }
