-- The new rules, names and texts stand for what becomes of the document.
use Rattle.std.proofs.Common.{◌≡◌, ℕ, suc, ◌+◌, List, [], ◌++◌, Bool, false, Some, slice_get, if◌then◌else◌, refl, sym, ap, ◌∙◌, arith, subst, append-nil}
use Rattle.plain_tree.specs.declared.kind.Kind.{Kind}
use Rattle.plain_tree.specs.declared.kind.Kind.TheVariants.{Document, Element, Attribute, Text, Comment, Instruction}
use Rattle.plain_tree.specs.Tree.{Tree, node, Trees, none, more, node_count_all}
use Rattle.plain_tree.specs.Numbers.{nodes, values_of, has_value, texts, texts_all}
use Rattle.plain_tree.specs.NameTable.{AreDistinct}
use Rattle.plain_tree.specs.Lawful.{IsDocument, IsLawfulName, IsLawfulTree}
use Rattle.slt_grammar.specs.Algebras.{Algebra}
use Rattle.slt_grammar.specs.Automata.{Downward, hits}
use Rattle.slt_grammar.specs.Coding.{Codes}
use Rattle.slt_grammar.specs.Grammars.{value}
use Rattle.slt_grammar.specs.Standing.{StandsFor}
use Rattle.slt_grammar.specs.declared.rules.Rule.{Rule}
use Rattle.slt_grammar.proofs.Standing.{own, texts_all-more}
use Rattle.bulk_rewrite.specs.Rewriting.{rewritten}
use Rattle.bulk_rewrite.specs.Numbered.{has, AllHit}
use Rattle.bulk_rewrite.specs.Renaming.{renaming, renamed, renamed_all}
use Rattle.bulk_rewrite.specs.Joining.{NoText, At, is_text, joining_run, joining, kept_rests, joined_rests, deleted, MayDelete}
use Rattle.bulk_rewrite.specs.Fates.{fates, redone, Redone}
use Rattle.bulk_rewrite.proofs.Trees.{codes-renamed, Changes}
use Rattle.bulk_rewrite.proofs.JoinedCodes.{codes-joined}
use Rattle.bulk_rewrite.proofs.Fates.{texts-joined}
use Rattle.bulk_rewrite.proofs.Documents.{document-deleted}

pub texts-one : (t : Tree) → texts_all (more t none) ≡ texts t
texts-one t = ap values_of (append-nil (nodes t))

-- names change no value
texts-renamed : (taken : ℕ → Bool) (name : List ℕ) (n : ℕ) (ts : Trees) → texts_all (renamed_all taken name n ts) ≡ texts_all ts
texts-renamed taken name n none = refl
texts-renamed taken name n (more (node kind old value kids) ts) =
    let next : ℕ = n + (node_count_all kids + 1) in
    texts_all-more kind (if taken n then name else old) value (renamed_all taken name (suc n) kids) (renamed_all taken name next ts)
    ∙ ap (λ xs. own kind value ++ (xs ++ texts_all (renamed_all taken name next ts))) (texts-renamed taken name (suc n) kids) ∙ ap (λ xs. own kind value ++ (texts_all kids ++ xs)) (texts-renamed taken name next ts)
    ∙ sym (texts_all-more kind old value kids ts)

-- nor how many nodes there are
pub count-renamed : (taken : ℕ → Bool) (name : List ℕ) (n : ℕ) (ts : Trees) → node_count_all (renamed_all taken name n ts) ≡ node_count_all ts
count-renamed taken name n none = refl
count-renamed taken name n (more (node kind old value kids) ts) = omega (arith, count-renamed taken name (suc n) kids, count-renamed taken name (n + (node_count_all kids + 1)) ts)

module _ {S D : Type 0} (A : Algebra S) (W : Downward S D) (G H : List Rule) (names : List (Kind × List ℕ)) (values : List (List ℕ)) (t : Tree) (st : StandsFor G names values t) where
  abbrev pub taken : ℕ → Bool
  taken = has (hits A W (value G))

  pub stands-renamed : (new : List (Kind × List ℕ)) (name : List ℕ) (change : ℕ → ℕ) (keeps : (f : ℕ) (p : Kind × List ℕ) → slice_get names f ≡ Some p → slice_get new f ≡ Some p)
      → AreDistinct new → ((i : ℕ) (kind : Kind) (n : List ℕ) → slice_get new i ≡ Some (kind, n) → IsLawfulName kind n)
      → AllHit A W (Changes A W [] names new taken name change keeps) (value G) [] W.start → IsDocument (renamed taken name 0 t)
      → value H ≡ rewritten A W (renaming change) (value G) [] W.start → StandsFor H new values (renamed taken name 0 t)
  stands-renamed new name change keeps distinct lawful all doc made = record {
    document = doc;
    distinct = distinct;
    lawful = lawful;
    code = rw made (codes-renamed A W [] names new taken name change keeps (more t none) (value G) 0 W.start st.code (λ k low high. refl) all);
    texts = st.texts ∙ sym (texts-one t) ∙ sym (texts-renamed taken name 0 (more t none)) ∙ texts-one (renamed taken name 0 t);
  }

  -- the only tree that is kept
  one-kept : (u : Tree) → IsDocument u → taken 0 ≡ false → joined_rests (kept_rests taken 0 false (more u none)) ≡ more (deleted taken 0 u) none
  one-kept (node Document name value kids) d e = rw e refl
  one-kept (node Element name value kids) d e = let f = d.is_document in absurd (cc)
  one-kept (node Attribute name value kids) d e = let f = d.is_document in absurd (cc)
  one-kept (node Text name value kids) d e = let f = d.is_document in absurd (cc)
  one-kept (node Comment name value kids) d e = let f = d.is_document in absurd (cc)
  one-kept (node Instruction name value kids) d e = let f = d.is_document in absurd (cc)

  root-kept : (u : Tree) → MayDelete taken u → taken 0 ≡ false
  root-kept (node kind name value kids) m = m.0

  pub stands-deleted : (valued texts_at : ℕ → Bool) → ((f : ℕ) (kind : Kind) (name : List ℕ) → slice_get names f ≡ Some (kind, name) → valued f ≡ has_value kind) → ((f : ℕ) (kind : Kind) (name : List ℕ) → slice_get names f ≡ Some (kind, name) → texts_at f ≡ is_text kind)
      → MayDelete taken t → value H ≡ rewritten A (joining_run W texts_at) (joining texts_at) (value G) [] (At W.start NoText)
      → StandsFor H names (redone (fates A W valued texts_at (value G) [] (At W.start NoText)) values).values (deleted taken 0 t)
  stands-deleted valued texts_at are_values are_texts may made =
      let one = one-kept t st.document (root-kept t may) in
      let code = codes-joined A W [] names taken texts_at are_texts (more t none) (value G) 0 W.start NoText false st.code (λ k low high. refl) in
      let lawful : IsLawfulTree t = st.document.lawful in
      let words = texts-joined A W [] names taken valued texts_at are_values are_texts (more t none) (value G) 0 W.start NoText false st.code (λ k low high. refl) (lawful, tt) in
      let F = fates A W valued texts_at (value G) [] (At W.start NoText) in
      record {
        document = document-deleted taken t st.document may;
        distinct = st.distinct;
        lawful = st.lawful;
        code = rw made (subst (λ ts. Codes names ts (rewritten A (joining_run W texts_at) (joining texts_at) (value G) [] (At W.start NoText))) one code);
        texts = ap (λ vs. (redone F vs).values) (st.texts ∙ sym (texts-one t)) ∙ ap (λ (r : Redone). r.values) words ∙ ap texts_all one ∙ texts-one (deleted taken 0 t);
      }
