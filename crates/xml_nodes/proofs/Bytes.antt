-- The laws of bytes, from those of tokens.
use Rattle.std.proofs.Common.{◌≡◌, ℕ, ◌+◌, ◌≤◌, true, false, List, [], ◌∷◌, ◌++◌, length, refl, ap, sym, ◌∙◌, subst, append_assoc, append-nil, length-append, arith}
use Rattle.std.specs.Prelude.{Some}
use Rattle.std.specs.List.{flat_map}
use Rattle.plain_tree.specs.Tree.{Tree, Trees, node_count, node_count_all}
use Rattle.xml_nodes.specs.declared.stage.Stage.TheVariants.{Epilog}
use Rattle.xml_tokenizer.specs.declared.scan.Scan.{Scan}
use Rattle.xml_tokenizer.specs.declared.scan.Scan.TheVariants.{Idle}
use Rattle.xml_tokenizer.specs.declared.scan.Step.TheVariants.{On, Whole}
use Rattle.xml_nodes.proofs.Steps.{steps-append}
use Rattle.xml_nodes.proofs.Documents.{document_leads}
use Rattle.xml_nodes.proofs.Grammar.{leads-document, split, some_is}
use Rattle.xml_nodes.proofs.One.{one-document}
use Rattle.xml_nodes.proofs.Fragments.{one-fragment, fragment-is_lawful}
use Rattle.xml_nodes.proofs.LawfulTrees.{document-is_lawful}
use Rattle.xml_nodes.proofs.Joining.{document-is_joined}
use Rattle.xml_nodes.proofs.LineEnds.{no_returns, line_ends-shorter, both_no_return}
use Rattle.xml_nodes.proofs.Fed.{cut_further, held_goes_on}
use Rattle.xml_nodes.proofs.Holding.{idle_holds_nothing}
use Rattle.xml_tokenizer.specs.LineEnds.{line_ends, line_ends_after, ends_in_return}
use Rattle.xml_nodes.specs.Stands.{StandsFrom}
use Rattle.plain_tree.specs.Lawful.{has_no_return, IsDocument, IsFragment}
use Rattle.xml_tokens.specs.Tokens.{Token, AreTokens}
use Rattle.xml_nodes.specs.LawfulTokens.{AreLawfulTokens, least_all}
use Rattle.plain_tree.specs.Joined.{joined, joined_all}
use Rattle.xml_nodes.specs.Content.{AreDocument, IsContent, given}
use Rattle.xml_nodes.specs.Machine.{State, Event, Stepped, steps, then_on, calls_before, start, end, events}
use Rattle.xml_tokenizer.specs.Scanning.{scanned}
use Rattle.xml_nodes.specs.Spelling.{Spells, SpellsList, SpellsValue}
use Rattle.xml_nodes.proofs.TokenFacts.{token_lawful, token_long}
use Rattle.xml_tokenizer.proofs.LineEndLaws.{line_ends-append}
use Rattle.xml_tokenizer.proofs.Cuts.{one_cutting}

-- calls that begin those of a document
abbrev pub IsFrontOf : List Event → List Event → Type 0
IsFrontOf log calls = (rest : List Event) × (calls ≡ log ++ rest)

pub cut_lawful : (ts : List Token) (bytes : List ℕ) → has_no_return bytes ≡ true → AreTokens ts bytes [] → AreLawfulTokens ts
cut_lawful [] bytes e a = tt
cut_lawful (t ∷ ts) bytes e a =
    let both = both_no_return a.0 a.1 (subst (λ z. has_no_return z ≡ true) a.3 e) in
    (token_lawful t a.0 a.2 both.0, cut_lawful ts a.1 both.1 a.4)

cut_long : (ts : List Token) (bytes : List ℕ) → AreTokens ts bytes [] → least_all ts ≤ length bytes
cut_long [] bytes a = omega arith
cut_long (t ∷ ts) bytes a =
    let whole : length bytes ≡ length a.0 + length a.1 = ap length a.3 ∙ length-append a.0 a.1 in
    omega (arith, whole, token_long t a.0 a.2, cut_long ts a.1 a.4)

-- bytes spell at most one document
pub spells-one : (bytes : List ℕ) (s t : Tree) → Spells bytes s → Spells bytes t → s ≡ t
spells-one bytes s t p q =
    let same = one_cutting p.tokens q.tokens (line_ends bytes) p.cut q.cut in
    one-document p.tokens s t p.document (subst (λ z. AreDocument z t) (sym same) q.document)

-- at most one fragment, and at most one value
pub spells-one_list : (bytes : List ℕ) (s t : Trees) → SpellsList bytes s → SpellsList bytes t → s ≡ t
spells-one_list bytes s t p q =
    let same = one_cutting p.tokens q.tokens (line_ends bytes) p.cut q.cut in
    one-fragment p.tokens s t p.content (subst (λ z. IsContent t false z []) (sym same) q.content)

pub spells-one_value : (bytes v w : List ℕ) → SpellsValue bytes v → SpellsValue bytes w → v ≡ w
spells-one_value bytes v w p q =
    let same = one_cutting p.tokens q.tokens (line_ends bytes) p.cut q.cut in
    p.gives ∙ ap (λ z. flat_map given z) same ∙ sym q.gives

-- what they spell is lawful, no larger than they are, and has no neighbouring texts
pub spells-document : (bytes : List ℕ) (t : Tree) → Spells bytes t → IsDocument t × (node_count t ≤ length bytes) × (joined t ≡ t)
spells-document bytes t p =
    let own = document-is_lawful p.tokens t p.document (cut_lawful p.tokens (line_ends bytes) (no_returns false bytes) p.cut) in
    (own.0, omega (arith, own.1, cut_long p.tokens (line_ends bytes) p.cut, line_ends-shorter false bytes), document-is_joined p.tokens t p.document)

pub spells-fragment : (bytes : List ℕ) (nodes : Trees) → SpellsList bytes nodes → IsFragment nodes × (node_count_all nodes ≤ length bytes) × (joined_all nodes ≡ nodes)
spells-fragment bytes nodes p =
    let own = fragment-is_lawful p.tokens nodes p.content (cut_lawful p.tokens (line_ends bytes) (no_returns false bytes) p.cut) in
    ((p.some, own.0), omega (arith, own.1, cut_long p.tokens (line_ends bytes) p.cut, line_ends-shorter false bytes), own.2)

module _ (front raw held : List ℕ) (scan : Scan) (now : State) (log : List Event) (s : StandsFrom start front raw held scan now log) where
  -- where nothing is held and the root is closed, the bytes are a document, and the calls are its
  pub finished : scan ≡ Idle → now.stage ≡ Epilog → (t : Tree) × Spells (front ++ raw) t × (log ≡ events t [])
  finished e f =
      let none = idle_holds_nothing start front raw held scan now log s e in
      let d = leads-document s.tokens now log s.stepped f in
      let whole : front ++ raw ≡ front = ap (λ z. front ++ z) none.1 ∙ append-nil front in
      (d.tree, record { tokens = s.tokens; cut = subst (λ z. AreTokens s.tokens (line_ends z) []) (sym whole) s.read.cut; document = d.are }, d.logged)

  fed_lines : (next : List ℕ) → line_ends ((front ++ raw) ++ next) ≡ line_ends front ++ (held ++ line_ends_after (ends_in_return false (front ++ raw)) next)
  fed_lines next =
      line_ends-append (front ++ raw) next false
      ∙ ap (λ z. z ++ line_ends_after (ends_in_return false (front ++ raw)) next) (line_ends-append front raw false ∙ ap (λ z. line_ends front ++ z) (sym s.read.rest))
      ∙ append_assoc (line_ends front) held (line_ends_after (ends_in_return false (front ++ raw)) next)

  -- the calls so far begin those of each document that begins with the bytes fed
  pub calls_begin : (next : List ℕ) (t : Tree) → Spells ((front ++ raw) ++ next) t → IsFrontOf log (events t [])
  calls_begin next t p =
      let more = held ++ line_ends_after (ends_in_return false (front ++ raw)) next in
      let v = cut_further s.tokens p.tokens (line_ends front) [] more s.read.cut (subst (λ z. AreTokens p.tokens z []) (fed_lines next) p.cut) in
      let leads : calls_before log (steps now v.0) ≡ Some (end, events t []) =
      sym (steps-append s.tokens v.0 start ∙ ap (λ z. then_on z (λ r. steps r v.0)) s.stepped) ∙ ap (λ z. steps start z) (sym v.1) ∙ document_leads p.tokens t p.document in
      let rest = split log (steps now v.0) end (events t []) leads in
      (rest.others, rest.logged)

  -- where bytes are held, or the root isn't closed, they spell no document
  pub unfinished : (scan ≡ Idle → now.stage ≡ Epilog → ⊥) → (t : Tree) → Spells (front ++ raw) t → ⊥
  unfinished h t p = by_held held refl where
    lines : line_ends (front ++ raw) ≡ line_ends front ++ held
    lines = line_ends-append front raw false ∙ ap (λ z. line_ends front ++ z) (sym s.read.rest)

    ended : (x y : List ℕ) → [] ≡ x ++ y → scanned (On scan) x ≡ Whole → ⊥
    ended [] y e w = cc
    ended (c ∷ x) y e w = cc

    by_held : (x : List ℕ) → held ≡ x → ⊥
    by_held [] e =
        let idle : On scan ≡ On Idle = sym s.read.waits ∙ ap (λ z. scanned (On Idle) z) e in
        let cut : AreTokens p.tokens (line_ends front) [] =
        subst (λ z. AreTokens p.tokens z []) (lines ∙ ap (λ z. line_ends front ++ z) e ∙ append-nil (line_ends front)) p.cut in
        let same = one_cutting s.tokens p.tokens (line_ends front) s.read.cut cut in
        let leads : ◌≡◌ {A = Stepped} (Some (now, log)) (Some (end, events t [])) = sym s.stepped ∙ ap (λ z. steps start z) same ∙ document_leads p.tokens t p.document in
        h (cc) (ap (λ z. z.stage) (ap (λ z. z.0) (some_is (now, log) (end, events t []) leads)))
    by_held (k ∷ x) e =
        let cut : AreTokens p.tokens (line_ends front ++ (k ∷ x)) [] = subst (λ z. AreTokens p.tokens z []) (lines ∙ ap (λ z. line_ends front ++ z) e) p.cut in
        let v = cut_further s.tokens p.tokens (line_ends front) [] (k ∷ x) s.read.cut cut in
        let over = (held_goes_on v.0 k x [] scan (sym (ap (λ z. scanned (On Idle) z) e) ∙ s.read.waits)
        (subst (λ z. AreTokens v.0 z []) (sym (append-nil (k ∷ x))) v.2)).1 in
        ended over.over over.after over.rest over.ends
