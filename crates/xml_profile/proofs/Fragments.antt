-- Where the bytes of a fragment end.
use Rattle.std.proofs.Common.{◌≡◌, ℕ, false, List, [], ◌∷◌, ◌++◌, refl, ap, sym, ◌∙◌, subst, append_assoc, append-nil}
use Rattle.std.specs.Prelude.{Some, None}
use Rattle.std.proofs.lemmas.List.{append_cancel_right}
use Rattle.plain_tree.specs.Tree.{Trees, none}
use Rattle.xml_tokens.specs.Tokens.{Token, AreTokens, End}
use Rattle.xml_tokenizer.specs.LineEnds.{line_ends}
use Rattle.xml_tokenizer.proofs.Cuts.{one_cutting}
use Rattle.xml_nodes.specs.Content.{IsContent}
use Rattle.xml_nodes.specs.Machine.{State, Event, Stepped, step, steps, then_on, calls_before, fragment_start, end, events_all, text_leaf}
use Rattle.xml_nodes.specs.Place.{IsListPlace}
use Rattle.xml_nodes.specs.Spelling.{SpellsList}
use Rattle.xml_nodes.specs.StateOf.{state_of}
use Rattle.xml_nodes.proofs.Bytes.{cut_lawful}
use Rattle.xml_nodes.proofs.Fragments.{fragment-leads, leads-fragment, one-fragment}
use Rattle.xml_nodes.proofs.FragmentPlace.{have_names, list_broken_off, list_refused_at, refused_spells_no_list}
use Rattle.xml_nodes.proofs.LineEnds.{no_returns}
use Rattle.xml_nodes.proofs.Steps.{steps-append}
use Rattle.xml_nodes.proofs.Trees.{all-next}
use Rattle.xml_profile.specs.Reading.{StandsFrom, EndsContent, IsBadList}
use Rattle.xml_profile.specs.Breaks.{BreaksFrom}
use Rattle.xml_profile.specs.declared.reader.Reader.{Reader}

some_same : (p q : State × List Event) → ◌≡◌ {A = Stepped} (Some p) (Some q) → p ≡ q
some_same p q e = cc

module _ (r : Reader) (calls : List Event) (fed : List ℕ) (s : StandsFrom fragment_start r calls fed) where
  -- the steps with the end of the nameless element behind the tokens
  ends_with : (o : Stepped) → step (state_of r.machine) (End []) ≡ o → steps fragment_start (s.tokens ++ End [] ∷ []) ≡ calls_before calls (then_on o (λ z. Some (z, [])))
  ends_with o e =
      steps-append s.tokens (End [] ∷ []) fragment_start ∙ ap (λ z. then_on z (λ q. steps q (End [] ∷ []))) s.stepped
      ∙ ap (λ z. calls_before calls (then_on z (λ q. Some (q, [])))) e

  -- whole tokens, behind which the nameless element may end, are a content
  pub ends_content : (before after : List Event) → AreTokens s.tokens (line_ends fed) [] → step (state_of r.machine) (End []) ≡ Some (end, text_leaf (state_of r.machine).text ++ Event.Closed ∷ [])
      → after ≡ before ++ text_leaf (state_of r.machine).text → EndsContent before after calls fed
  ends_content before after whole e logged =
      let text = text_leaf (state_of r.machine).text in
      let leads : steps fragment_start (s.tokens ++ End [] ∷ []) ≡ Some (end, calls ++ ((text ++ Event.Closed ∷ []) ++ [])) = ends_with (Some (end, text ++ Event.Closed ∷ [])) e in
      let d = leads-fragment s.tokens end (calls ++ ((text ++ Event.Closed ∷ []) ++ [])) (have_names s.tokens (cut_lawful s.tokens (line_ends fed) (no_returns false fed) whole)) leads refl in
      record {
        nodes = d.nodes;
        tokens = s.tokens;
        cut = whole;
        content = d.are;
        more = text;
        logged = logged;
        all = closed_off (calls ++ text) (events_all d.nodes [])
            (append_assoc calls text (Event.Closed ∷ []) ∙ ap (λ z. calls ++ z) (sym (append-nil (text ++ Event.Closed ∷ []))) ∙ d.logged ∙ all-next d.nodes (Event.Closed ∷ []));
      } where
        closed_off : (x y : List Event) → x ++ Event.Closed ∷ [] ≡ y ++ Event.Closed ∷ [] → x ≡ y
        closed_off x y f = append_cancel_right x y (Event.Closed ∷ []) f

  -- bytes that are no whole tokens, or behind which it may not end, are no fragment
  pub ends_not : ((others : List Token) → AreTokens others (line_ends fed) [] → ⊥) → (nodes : Trees) → SpellsList fed nodes → ⊥
  ends_not broken nodes p = broken p.tokens p.cut

  pub goes_further : AreTokens s.tokens (line_ends fed) [] → ((more : List Event) → step (state_of r.machine) (End []) ≡ Some (end, more) → ⊥) → (nodes : Trees) → SpellsList fed nodes → ⊥
  goes_further whole never nodes p =
      let same = one_cutting s.tokens p.tokens (line_ends fed) whole p.cut in
      let leads : steps fragment_start (s.tokens ++ End [] ∷ []) ≡ Some (end, events_all nodes (Event.Closed ∷ [])) =
      ap (λ z. steps fragment_start (z ++ End [] ∷ [])) same ∙ fragment-leads p.tokens nodes p.content in
      by_step (step (state_of r.machine) (End [])) refl leads where
        by_step : (o : Stepped) → step (state_of r.machine) (End []) ≡ o → steps fragment_start (s.tokens ++ End [] ∷ []) ≡ Some (end, events_all nodes (Event.Closed ∷ [])) → ⊥
        by_step None e f =
            let bad : ◌≡◌ {A = Stepped} None (Some (end, events_all nodes (Event.Closed ∷ []))) = sym (ends_with None e) ∙ f in
            cc
        by_step (Some (q, more)) e f =
            let same = ap (λ z. z.0) (some_same (q, calls ++ (more ++ [])) (end, events_all nodes (Event.Closed ∷ [])) (sym (ends_with (Some (q, more)) e) ∙ f)) in
            never more (e ∙ ap (λ z. Some (z, more)) same)

  pub list_ends_at : IsListPlace fed r.tokenizer.start
  list_ends_at =
      let read = s.cut.read in
      let place = list_broken_off read.front read.raw r.tokenizer.held.items r.tokenizer.scan (state_of r.machine) calls
      (record { tokens = s.tokens; read = read.behind; stepped = s.stepped }) in
      subst (λ z. IsListPlace z r.tokenizer.start) (sym read.whole) (subst (λ z. IsListPlace (read.front ++ read.raw) z) (sym read.begins) place)

-- bytes that break spell no fragment
pub breaks_bad_list : (bytes : List ℕ) (at : ℕ) → BreaksFrom fragment_start bytes at → IsBadList bytes at
breaks_bad_list bytes at b =
    subst (λ z. IsBadList z at) (sym b.whole)
    (record {
      none = λ nodes p. refused_spells_no_list b.front b.raw b.held b.rest b.scan b.now b.log b.c b.behind b.kept b.bad nodes p;
      place = subst (λ z. IsListPlace ((b.front ++ b.raw) ++ b.c ∷ b.rest) z) (sym b.begins) (list_refused_at b.front b.raw b.held b.scan b.now b.log b.c b.rest b.behind b.kept b.bad);
    })

-- nor do those of a content without nodes
pub silent_content : (before after calls : List Event) (fed : List ℕ) (e : EndsContent before after calls fed) → e.nodes ≡ none → (nodes : Trees) → SpellsList fed nodes → ⊥
silent_content before after calls fed e empty nodes p =
    let same = one_cutting e.tokens p.tokens (line_ends fed) e.cut p.cut in
    p.some (one-fragment p.tokens nodes e.nodes p.content (subst (λ z. IsContent e.nodes false z []) same e.content) ∙ empty)

-- and with nodes they spell them
pub spelled_content : (before after calls : List Event) (fed : List ℕ) (e : EndsContent before after calls fed) → (e.nodes ≡ none → ⊥) → SpellsList fed e.nodes
spelled_content before after calls fed e some = record { tokens = e.tokens; cut = e.cut; content = e.content; some = some }
