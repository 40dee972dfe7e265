-- A file that is read, part after part.
use Rattle.std.proofs.Common.{◌≡◌, ℕ, List, [], ◌++◌, length, inl, inr, refl, sym, ap, ◌∙◌, subst, append-nil}
use Rattle.plain_tree.specs.declared.kind.Kind.{Kind}
use Rattle.slt_grammar.specs.Grammars.{IsGrammar}
use Rattle.slt_grammar.specs.declared.rules.Rule.{Rule}
use Rattle.grammar_file.specs.FileBytes.{mark, first_mark, list_bytes, name_bytes, rule_bytes, text_bytes, AreBytesOf}
use Rattle.grammar_file.specs.Versions.{mark_of, texts_bytes}
use Rattle.grammar_file.specs.declared.scan.Version.{Version}
use Rattle.grammar_file.specs.declared.scan.Version.TheVariants.{First, Second}
use Rattle.grammar_file.specs.Files.{AreNames, AreRules, IsFileOf}
use Rattle.grammar_file.specs.Reading.{BeginsNone}
use Rattle.grammar_file.proofs.Formed.{grammar-formed}
use Rattle.grammar_file.proofs.Unique.{apart, append-unique, dictionary-unique, list-unique, name-unique, text-unique, formed-unique}

abbrev behind_mark : Version → List (Kind × List ℕ) → List Rule → List (List ℕ) → List ℕ
behind_mark v names G texts = list_bytes name_bytes names ++ (list_bytes rule_bytes G ++ texts_bytes v texts)

-- bytes of parts are of one version
by_version : (bytes : List ℕ) (names : List (Kind × List ℕ)) (G : List Rule) (texts : List (List ℕ)) → AreBytesOf bytes names G texts → (v : Version) × (bytes ≡ mark_of v ++ behind_mark v names G texts)
by_version bytes names G texts (inl e) = (Second, e)
by_version bytes names G texts (inr e) = (First, e)

to_version : (bytes : List ℕ) (v : Version) (names : List (Kind × List ℕ)) (G : List Rule) (texts : List (List ℕ)) → bytes ≡ mark_of v ++ behind_mark v names G texts → AreBytesOf bytes names G texts
to_version bytes First names G texts e = inr e
to_version bytes Second names G texts e = inl e

-- which the mark tells
of_version : (left : List ℕ) (v : Version) (names : List (Kind × List ℕ)) (G : List Rule) (texts : List (List ℕ)) (w : Version) → mark_of v ++ left ≡ mark_of w ++ behind_mark w names G texts
    → left ≡ behind_mark v names G texts
of_version left First names G texts First e = (append-unique first_mark first_mark left _ refl e).1
of_version left Second names G texts Second e = (append-unique mark mark left _ refl e).1
of_version left First names G texts Second e = absurd (apart _ _ (sym e))
of_version left Second names G texts First e = absurd (apart _ _ e)

texts-unique : (v : Version) (texts values : List (List ℕ)) (xs ys : List ℕ) → texts_bytes v texts ++ xs ≡ texts_bytes v values ++ ys → (texts ≡ values) × (xs ≡ ys)
texts-unique First texts values xs ys e = list-unique text_bytes text-unique texts values xs ys e
texts-unique Second texts values xs ys e = dictionary-unique texts values xs ys e

abbrev pub IsNoFile : List ℕ → Type 0
IsNoFile bytes = (names : List (Kind × List ℕ)) (G : List Rule) (texts : List (List ℕ)) → IsFileOf bytes names G texts → ⊥

pub no_mark : (bytes start : List ℕ) → start ≡ bytes → BeginsNone (λ (_ : Version). Unit {0}) mark_of start → IsNoFile bytes
no_mark bytes start same bad names G texts h = let w = by_version bytes names G texts h.whole in bad w.0 (behind_mark w.0 names G texts) tt (same ∙ w.1)

module _ (bytes left : List ℕ) (v : Version) (marked : bytes ≡ mark_of v ++ left) where
  parts : (names : List (Kind × List ℕ)) (G : List Rule) (texts : List (List ℕ)) → IsFileOf bytes names G texts → left ≡ behind_mark v names G texts
  parts names G texts h = let w = by_version bytes names G texts h.whole in of_version left v names G texts w.0 (sym marked ∙ w.1)

  pub no_names : BeginsNone AreNames (list_bytes name_bytes) left → IsNoFile bytes
  no_names bad names G texts h = bad names (list_bytes rule_bytes G ++ texts_bytes v texts) h.lawful (parts names G texts h)

  module _ (names : List (Kind × List ℕ)) (behind : List ℕ) (named : left ≡ list_bytes name_bytes names ++ behind) where
    rest : (others : List (Kind × List ℕ)) (G : List Rule) (texts : List (List ℕ)) → IsFileOf bytes others G texts
        → (names ≡ others) × (behind ≡ list_bytes rule_bytes G ++ texts_bytes v texts)
    rest others G texts h = list-unique name_bytes name-unique names others behind (list_bytes rule_bytes G ++ texts_bytes v texts) (sym named ∙ parts others G texts h)

    pub no_grammar : (count : ℕ) → count ≡ length names → BeginsNone (AreRules count) (list_bytes rule_bytes) behind → IsNoFile bytes
    no_grammar count counted bad others G texts h =
        let told = rest others G texts h in
        bad G (texts_bytes v texts) (subst (λ n. AreRules n G) (ap length (sym told.0) ∙ sym counted) h.grammar) told.1

    module _ (rules : List Rule) (last : List ℕ) (grammar : IsGrammar rules) (ruled : behind ≡ list_bytes rule_bytes rules ++ last) where
      end : (others : List (Kind × List ℕ)) (G : List Rule) (texts : List (List ℕ)) → IsFileOf bytes others G texts → last ≡ texts_bytes v texts
      end others G texts h =
          (formed-unique rules G last (texts_bytes v texts) (grammar-formed rules grammar) (grammar-formed G h.grammar.grammar) (sym ruled ∙ (rest others G texts h).1)).1

      pub no_texts : BeginsNone (λ (_ : List (List ℕ)). Unit {0}) (texts_bytes v) last → IsNoFile bytes
      no_texts bad others G texts h = bad texts [] tt (end others G texts h ∙ sym (append-nil (texts_bytes v texts)))

      -- more bytes follow
      pub no_end : (texts : List (List ℕ)) (more : List ℕ) → last ≡ texts_bytes v texts ++ more → (more ≡ [] → ⊥) → IsNoFile bytes
      no_end texts more e some others G values h =
          some (texts-unique v texts values more [] (sym e ∙ end others G values h ∙ sym (append-nil (texts_bytes v values)))).1

      pub is_whole : (texts : List (List ℕ)) (more : List ℕ) → last ≡ texts_bytes v texts ++ more → more ≡ [] → AreBytesOf bytes names rules texts
      is_whole texts more e none =
          to_version bytes v names rules texts (marked ∙ ap (λ z. mark_of v ++ z) (named ∙ ap (λ z. list_bytes name_bytes names ++ z) (ruled ∙ ap (λ z. list_bytes rule_bytes rules ++ z)
          (e ∙ ap (λ z. texts_bytes v texts ++ z) none ∙ append-nil (texts_bytes v texts)))))
