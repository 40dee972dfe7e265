-- Where the bytes end that a reader was fed, or break.
use Rattle.std.proofs.Common.{◌≡◌, ℕ, List, [], ◌∷◌, ◌++◌, length, refl, ap, sym, ◌∙◌, subst, append_assoc, append-nil}
use Rattle.std.specs.Prelude.{Option, Some, None}
use Rattle.plain_tree.specs.Tree.{Tree}
use Rattle.xml_tokens.specs.Tokens.{AreTokens}
use Rattle.xml_tokenizer.specs.LineEnds.{line_ends}
use Rattle.xml_nodes.specs.Machine.{Event, Stepped, steps, start, end, events}
use Rattle.xml_nodes.specs.Place.{IsPlace}
use Rattle.xml_nodes.specs.Spelling.{Spells}
use Rattle.xml_nodes.specs.StateOf.{state_of}
use Rattle.xml_nodes.specs.declared.stage.Stage.TheVariants.{Epilog}
use Rattle.xml_nodes.proofs.Documents.{document_leads}
use Rattle.xml_nodes.proofs.Grammar.{leads-document, some_is}
use Rattle.xml_nodes.proofs.Place.{broken_off, refused_at, refused_spells_nothing}
use Rattle.xml_tokenizer.proofs.Cuts.{one_cutting}
use Rattle.xml_profile.specs.Reading.{Stands, EndsDocument, IsFed, IsFedSo, IsFedOn, IsBad}
use Rattle.xml_profile.specs.Breaks.{BreaksFrom}
use Rattle.xml_profile.specs.declared.error.XmlError.{XmlError}
use Rattle.xml_profile.specs.declared.error.XmlError.TheVariants.{Bad, Memory}
use Rattle.xml_profile.specs.declared.reader.Reader.{Reader}

-- a reader that didn't fail
pub unfailed : (r : Reader) (calls : List Event) (fed : List ℕ) → r.failed ≡ None → IsFed r calls fed → Stands r calls fed
unfailed r calls fed e f = subst (λ z. IsFedSo z r calls fed) e f

-- what is known where it did
pub failed_at : (r : Reader) (calls : List Event) (fed : List ℕ) (at : ℕ) → r.failed ≡ Some (Bad at) → IsFed r calls fed → (next : List ℕ) → IsBad (fed ++ next) at
failed_at r calls fed at e f = subst (λ z. IsFedSo z r calls fed) e f

pub failed_here : (r : Reader) (calls : List Event) (fed : List ℕ) (at : ℕ) → r.failed ≡ Some (Bad at) → IsFed r calls fed → IsBad fed at
failed_here r calls fed at e f = subst (λ z. IsBad z at) (append-nil fed) (failed_at r calls fed at e f [])

module _ (r : Reader) (calls : List Event) (fed : List ℕ) (s : Stands r calls fed) where
  -- a document with whole tokens leads the machine to its end
  at_end : AreTokens s.tokens (line_ends fed) [] → (t : Tree) → Spells fed t → state_of r.machine ≡ end
  at_end whole t p =
      let same = one_cutting s.tokens p.tokens (line_ends fed) whole p.cut in
      let leads : ◌≡◌ {A = Stepped} (Some (state_of r.machine, calls)) (Some (end, events t [])) = sym s.stepped ∙ ap (λ z. steps start z) same ∙ document_leads p.tokens t p.document in
      ap (λ z. z.0) (some_is (state_of r.machine, calls) (end, events t []) leads)

  pub ends_document : AreTokens s.tokens (line_ends fed) [] → (state_of r.machine).stage ≡ Epilog → EndsDocument r calls fed
  ends_document whole last =
      let d = leads-document s.tokens (state_of r.machine) calls s.stepped last in
      let p : Spells fed d.tree = record { tokens = s.tokens; cut = whole; document = d.are } in
      record { tree = d.tree; spelled = p; logged = d.logged; closed = ap (λ z. length z.names) (at_end whole d.tree p) }

  pub ends_elsewhere : AreTokens s.tokens (line_ends fed) [] → ((state_of r.machine).stage ≡ Epilog → ⊥) → (t : Tree) → Spells fed t → ⊥
  ends_elsewhere whole last t p = last (ap (λ z. z.stage) (at_end whole t p))

  pub ends_at : IsPlace fed r.tokenizer.start
  ends_at =
      let read = s.cut.read in
      let place = broken_off read.front read.raw r.tokenizer.held.items r.tokenizer.scan (state_of r.machine) calls
      (record { tokens = s.tokens; read = read.behind; stepped = s.stepped }) in
      subst (λ z. IsPlace z r.tokenizer.start) (sym read.whole) (subst (λ z. IsPlace (read.front ++ read.raw) z) (sym read.begins) place)

-- bytes that break spell no document, however they go on
pub breaks_bad : (bytes : List ℕ) (at : ℕ) → BreaksFrom start bytes at → (next : List ℕ) → IsBad (bytes ++ next) at
breaks_bad bytes at b next =
    let whole : bytes ++ next ≡ (b.front ++ b.raw) ++ b.c ∷ (b.rest ++ next) = ap (λ z. z ++ next) b.whole ∙ append_assoc (b.front ++ b.raw) (b.c ∷ b.rest) next in
    subst (λ z. IsBad z at) (sym whole)
    (record {
      none = λ t p. refused_spells_nothing b.front b.raw b.held (b.rest ++ next) b.scan b.now b.log b.c b.behind b.kept b.bad t p;
      place = subst (λ z. IsPlace ((b.front ++ b.raw) ++ b.c ∷ (b.rest ++ next)) z) (sym b.begins)
          (refused_at b.front b.raw b.held b.scan b.now b.log b.c (b.rest ++ next) b.behind b.kept b.bad);
    })

-- the reader fails
pub fails : (r : Reader) (e : XmlError) (before after calls : List Event) (bytes : List ℕ) → r.failed ≡ Some e → ((at : ℕ) → e ≡ Bad at → BreaksFrom start bytes at)
    → IsFedOn r before after calls bytes
fails r e before after calls bytes f broken = record {
  more = [];
  logged = λ none. let bad : ◌≡◌ {A = Option XmlError} (Some e) None = sym f ∙ none in cc;
  fed = subst (λ z. IsFedSo z r (calls ++ []) bytes) (sym f) (by_error e refl);
} where
  by_error : (x : XmlError) → e ≡ x → IsFedSo (Some x) r (calls ++ []) bytes
  by_error (Bad at) g = λ next. breaks_bad bytes at (broken at g) next
  by_error Memory g = tt
