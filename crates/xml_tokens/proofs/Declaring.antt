-- Declarations are spelled exactly where their reader finds them.
use Rattle.std.proofs.Common.{◌≡◌, inl, inr, ℕ, Bool, true, false, List, [], ◌∷◌, ◌++◌, refl, ap, sym, ◌∙◌, subst, append_assoc}
use Rattle.std.specs.Prelude.{codes, Option, Some, None, ◌==◌}
use Rattle.plain_tree.specs.XmlNames.{is_space, are_spaces, begins_space}
use Rattle.xml_tokens.specs.Cutting.{front, back, behind, Begins}
use Rattle.xml_tokens.specs.Declarations.{IsItem, IsDeclaration, Maybe, is_version, is_encoding, is_yes_or_no}
use Rattle.xml_tokens.specs.TokenAt.{item_at, space_at, eq_at, passed_at, maybe_at, is_end, behind_version, behind_encoding, declaration_end}
use Rattle.xml_tokens.proofs.Lists.{Stops, back-append, front-back, list_all-front, chosen_some, behind-append, behind_whole, same_bytes}
use Rattle.xml_tokens.proofs.Parts.{some_same, space_is, space_was, eq_is, eq_was, quoted_is, quoted_was, quoted_stops, white_spaces}
use Rattle.xml_tokens.proofs.Attributing.{then_some}

module _ (word : List ℕ) (test : List ℕ → Bool) where
  item_cut : (x rest : List ℕ) (i : IsItem word test x) → x ++ rest ≡ i.space ++ (word ++ (i.eq ++ (i.quotes ++ rest)))
  item_cut x rest i = ap (λ z. z ++ rest) i.whole ∙ simp append_assoc

  item_is : ((y : List ℕ) → Stops is_space (word ++ y)) → (x rest : List ℕ) (i : IsItem word test x) → item_at word (x ++ rest) ≡ Some (i.inner, rest)
  unfolding item_at
  item_is stops x rest i =
      rw (
        item_cut x rest i,
        space_is i.space (word ++ (i.eq ++ (i.quotes ++ rest))) i.spaced (stops (i.eq ++ (i.quotes ++ rest))),
        behind-append word (i.eq ++ (i.quotes ++ rest)),
        eq_is i.eq (i.quotes ++ rest) i.is_eq (quoted_stops i.inner i.quotes rest i.quoted),
        quoted_is i.inner i.quotes rest i.quoted,
      ) refl

  item_was : (s inner rest : List ℕ) → item_at word s ≡ Some (inner, rest) → test inner ≡ true → Begins (IsItem word test) s rest
  unfolding item_at
  item_was s inner rest e passes =
      let start = then_some (space_at s) _ (inner, rest) e in
      let worded = then_some (behind word start.0) _ (inner, rest) start.2 in
      let eq = then_some (eq_at worded.0) _ (inner, rest) worded.2 in
      let white = space_was s start.0 start.1 in
      let q = eq_was worded.0 eq.0 eq.1 in
      let k = quoted_was eq.0 inner rest eq.2 in
      record {
        text = white.0 ++ (word ++ (q.text ++ k.text));
        spelled = record { space = white.0; spaced = white.1; eq = q.text; is_eq = q.spelled; inner = inner; lawful = passes; quotes = k.text; quoted = k.spelled; whole = refl };
        whole =
            white.2 ∙ ap (λ z. white.0 ++ z) (behind_whole word start.0 worded.0 worded.1 ∙ ap (λ z. word ++ z) (q.whole ∙ ap (λ z. q.text ++ z) k.whole)) ∙ sym (simp append_assoc);
      }

  pub passed_is : ((y : List ℕ) → Stops is_space (word ++ y)) → (x rest : List ℕ) → IsItem word test x → passed_at test (item_at word (x ++ rest)) ≡ Some rest
  passed_is stops x rest i = rw (item_is stops x rest i, i.lawful) refl

  passed : (s rest : List ℕ) (o : Option (List ℕ × List ℕ)) → item_at word s ≡ o → passed_at test o ≡ Some rest → Begins (IsItem word test) s rest
  passed s rest None e f = cc
  passed s rest (Some (inner, after)) e f =
      let found = chosen_some (test inner) (Some after) rest f in
      subst (λ z. Begins (IsItem word test) s z) (some_same after rest found.1) (item_was s inner after e found.0)

  pub passed_was : (s rest : List ℕ) → passed_at test (item_at word s) ≡ Some rest → Begins (IsItem word test) s rest
  passed_was s rest e = passed s rest (item_at word s) refl e

  pub maybe_is : ((y : List ℕ) → Stops is_space (word ++ y)) → (x rest : List ℕ) → Maybe (IsItem word test) x → item_at word rest ≡ None → maybe_at test (x ++ rest) (item_at word (x ++ rest)) ≡ Some rest
  maybe_is stops x rest (inl e) none = ap (λ z. maybe_at test (z ++ rest) (item_at word (z ++ rest))) e ∙ rw none refl
  maybe_is stops x rest (inr i) none = rw (item_is stops x rest i, i.lawful) refl

  maybe : (s rest : List ℕ) (o : Option (List ℕ × List ℕ)) → item_at word s ≡ o → maybe_at test s o ≡ Some rest → Begins (Maybe (IsItem word test)) s rest
  maybe s rest None e f = record { text = []; spelled = inl refl; whole = some_same s rest f }
  maybe s rest (Some (inner, after)) e f =
      let found = chosen_some (test inner) (Some after) rest f in
      let i = item_was s inner after e found.0 in
      subst (λ z. Begins (Maybe (IsItem word test)) s z) (some_same after rest found.1) (record { text = i.text; spelled = inr i.spelled; whole = i.whole })

  pub maybe_was : (s rest : List ℕ) → maybe_at test s (item_at word s) ≡ Some rest → Begins (Maybe (IsItem word test)) s rest
  maybe_was s rest e = maybe s rest (item_at word s) refl e

-- where another sign follows the white space, the item isn't there
other_word : (w : ℕ) (ws space rest : List ℕ) (d : ℕ) → are_spaces space ≡ true → is_space d ≡ false → (d == w) ≡ false → item_at (w ∷ ws) (space ++ d ∷ rest) ≡ None
unfolding item_at
other_word w ws space rest d spaced stops differs = by (begins_space (space ++ d ∷ rest)) refl where
  by : (b : Bool) → begins_space (space ++ d ∷ rest) ≡ b → item_at (w ∷ ws) (space ++ d ∷ rest) ≡ None
  by true e = rw (e, back-append is_space space (d ∷ rest) spaced stops, differs) refl
  by false e = rw e refl

no_encoding : (standalone space : List ℕ) → Maybe (IsItem (codes "standalone") is_yes_or_no) standalone → are_spaces space ≡ true → item_at (codes "encoding") (standalone ++ (space ++ 63 ∷ 62 ∷ [])) ≡ None
no_encoding standalone space (inl e) spaced =
    ap (λ z. item_at (codes "encoding") (z ++ (space ++ 63 ∷ 62 ∷ []))) e ∙ other_word 101 _ space (62 ∷ []) 63 spaced refl refl
no_encoding standalone space (inr i) spaced =
    ap (item_at (codes "encoding")) (item_cut (codes "standalone") is_yes_or_no standalone (space ++ 63 ∷ 62 ∷ []) i) ∙ other_word 101 _ i.space _ 115 (white_spaces i.space i.spaced) refl refl

pub declaration_is : (x : List ℕ) (i : IsDeclaration x) → declaration_end (i.version ++ (i.encoding ++ (i.standalone ++ (i.space ++ 63 ∷ 62 ∷ [])))) ≡ true
unfolding declaration_end
declaration_is x i =
    rw (
      passed_is (codes "version") is_version (λ y. refl) i.version (i.encoding ++ (i.standalone ++ (i.space ++ 63 ∷ 62 ∷ []))) i.versioned,
      maybe_is (codes "encoding") is_encoding (λ y. refl) i.encoding (i.standalone ++ (i.space ++ 63 ∷ 62 ∷ [])) i.encoded (no_encoding i.standalone i.space i.alone i.spaced),
      maybe_is (codes "standalone") is_yes_or_no (λ y. refl) i.standalone (i.space ++ 63 ∷ 62 ∷ []) i.alone (other_word 115 _ i.space (62 ∷ []) 63 i.spaced refl refl),
      back-append is_space i.space (63 ∷ 62 ∷ []) i.spaced refl,
    ) refl

pub end_some : (close : List ℕ) (o : Option (List ℕ)) → is_end close o ≡ true → (s : List ℕ) × (o ≡ Some s) × (back is_space s ≡ close)
end_some close None e = cc
end_some close (Some s) e = (s, refl, same_bytes (back is_space s) close e)

pub declaration_was : (s : List ℕ) → declaration_end s ≡ true → IsDeclaration (60 ∷ 63 ∷ 120 ∷ 109 ∷ 108 ∷ s)
unfolding declaration_end
declaration_was s e =
    let end = end_some (63 ∷ 62 ∷ []) _ e in
    let v = then_some (behind_version s) _ end.0 end.1 in
    let n = then_some (behind_encoding v.0) _ end.0 v.2 in
    let version = passed_was (codes "version") is_version s v.0 v.1 in
    let encoding = maybe_was (codes "encoding") is_encoding v.0 n.0 n.1 in
    let alone = maybe_was (codes "standalone") is_yes_or_no n.0 end.0 n.2 in
    record {
      version = version.text;
      encoding = encoding.text;
      standalone = alone.text;
      space = front is_space end.0;
      versioned = version.spelled;
      encoded = encoding.spelled;
      alone = alone.spelled;
      spaced = list_all-front is_space end.0;
      whole =
          ap (λ z. 60 ∷ 63 ∷ 120 ∷ 109 ∷ 108 ∷ z) (version.whole
          ∙ ap (λ z. version.text ++ z) (encoding.whole
          ∙ ap (λ z. encoding.text ++ z) (alone.whole ∙ ap (λ z. alone.text ++ z) (sym (front-back is_space end.0) ∙ ap (λ z. front is_space end.0 ++ z) end.2))));
    }
