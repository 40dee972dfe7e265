-- The tokens that lead the machine from the start to its last stage are a document, and the calls are that document's.
use Rattle.std.proofs.Common.{◌≡◌, ℕ, Bool, true, false, List, [], ◌∷◌, ◌++◌, refl, ap, sym, ◌∙◌, subst, inl, inr, append_assoc, append-nil, arith}
use Rattle.std.specs.Prelude.{Some, None, ◌==◌, ◌&&◌, nat_le, bytes_eq, if◌then◌else◌}
use Rattle.std.specs.List.{flat_map}
use Rattle.std.specs.Char.{encode_utf8}
use Rattle.std.proofs.lemmas.Bool.Decides.{nat_tests}
use Rattle.std.proofs.lemmas.Slice.Eq.{bytes_eq-Decides}
use Rattle.plain_tree.specs.declared.kind.Kind.TheVariants as kind
use Rattle.plain_tree.specs.Tree.{Tree, node, none, more}
use Rattle.xml_nodes.specs.declared.stage.Stage.TheVariants as at
use Rattle.xml_nodes.proofs.Runs.{inside}
use Rattle.xml_nodes.proofs.Stack.{IsFree, count_after, no_section_end, Fills, Ends, Rest}
use Rattle.plain_tree.specs.XmlNames.{is_space}
use Rattle.xml_tokens.specs.Tokens.{Token, Character, Reference, Section, Start, Empty, End, Comment, Instruction, Declaration, Doctype}
use Rattle.xml_nodes.specs.Content.{is_text_piece, given, RunGives, IsMarkup, Space, Typed, Kid, kids_of, MayBegin}
use Rattle.xml_nodes.specs.Machine.{State, Event, Opened, Leaf, Closed, Stepped, steps, then_on, calls_before, opened_at, events, events_all, attribute_leaves, text_leaf, brackets_after}
use Rattle.xml_nodes.specs.Laws.{LeadsToDocument}
use Rattle.xml_nodes.proofs.Made.{with_text_kid, element, text_events, content_made, empty_made, empty_events, start_made, start_events}

-- the calls behind the first ones
pub record Split (first : List Event) (r : Stepped) (last : State) (calls : List Event) : Type 0 where
  pub others : List Event
  pub rest : r ≡ Some (last, others)
  pub logged : calls ≡ first ++ others

pub some_is : (p q : State × List Event) → Some p ≡ Some q → p ≡ q
some_is p q e = cc

pub split : (first : List Event) (r : Stepped) (last : State) (calls : List Event) → calls_before first r ≡ Some (last, calls) → Split first r last calls
split first None last calls e = cc
split first (Some (s, es)) last calls e =
    let both = some_is (s, first ++ es) (last, calls) e in
    record {
      others = es;
      rest = ap (λ z. Some (z, es)) (ap (λ z. z.0) both);
      logged = sym (ap (λ z. z.1) both);
    }

-- what fills an open element, with one token more in front
pub run_of : (name text : List ℕ) (tokens : List Token) (calls : List Event) (Next : List Token → List Event → Type 0)
    → (f : Fills name text 0 tokens calls Next) → RunGives (flat_map given f.pieces) tokens f.mid
run_of name text tokens calls Next f = record { pieces = f.pieces; each = f.each; whole = f.whole; gives = refl; lawful = no_section_end f.pieces 0 f.counted }

module _ (name text : List ℕ) (b : ℕ) (Next : List Token → List Event → Type 0) where
  piece_more : (p : Token) (tokens : List Token) (calls : List Event) → is_text_piece p ≡ true → IsFree b p
      → Fills name (text ++ given p) (count_after b p) tokens calls Next → Fills name text b (p ∷ tokens) calls Next
  piece_more p tokens calls piece free f = record {
    pieces = p ∷ f.pieces;
    each = rw piece f.each;
    counted = (free, f.counted);
    items = f.items;
    mid = f.mid;
    after = f.after;
    others = f.others;
    whole = ap (λ z. p ∷ z) f.whole;
    content = f.content;
    logged = f.logged ∙ ap (λ z. text_leaf z ++ events_all f.items (Closed ∷ f.others)) (append_assoc text (given p) (flat_map given f.pieces));
    next = f.next;
  }

  item_more : (t : Tree) (tokens rest : List Token) (calls others : List Event) → IsMarkup t tokens rest → calls ≡ text_leaf text ++ events t others
      → Fills name [] 0 rest others Next → Fills name text b tokens calls Next
  item_more t tokens rest calls others i e f =
      let v = flat_map given f.pieces in
      record {
        pieces = [];
        each = refl;
        counted = tt;
        items = more t (with_text_kid v f.items);
        mid = tokens;
        after = f.after;
        others = f.others;
        whole = refl;
        content = (rest, i, content_made v f.items false rest f.mid (End name ∷ f.after) (run_of name [] rest others Next f) f.content);
        logged = e ∙ ap (λ z. text_leaf z ++ events t others) (sym (append-nil text))
            ∙ ap (λ z. text_leaf (text ++ []) ++ events t z) (f.logged ∙ sym (text_events v f.items (Closed ∷ f.others)));
        next = f.next;
      }

  end_more : (m : List ℕ) (rest : List Token) (calls others : List Event) → m ≡ name → calls ≡ (text_leaf text ++ Closed ∷ []) ++ others → Next rest others
      → Fills name text b (End m ∷ rest) calls Next
  end_more m rest calls others e l next = record {
    pieces = [];
    each = refl;
    counted = tt;
    items = none;
    mid = End m ∷ rest;
    after = rest;
    others = others;
    whole = refl;
    content = ap (λ z. End z ∷ rest) e;
    logged = l ∙ append_assoc (text_leaf text) (Closed ∷ []) others ∙ ap (λ z. text_leaf z ++ Closed ∷ others) (sym (append-nil text));
    next = next;
  }

  start_more : (n : List ℕ) (attrs : List (List ℕ × List ℕ)) (inner : List Token) (calls others : List Event)
      → calls ≡ (text_leaf text ++ Opened n ∷ attribute_leaves attrs) ++ others
      → Fills n [] 0 inner others (λ after os. Fills name [] 0 after os Next) → Fills name text b (Start n attrs ∷ inner) calls Next
  start_more n attrs inner calls others e f =
      let v = flat_map given f.pieces in
      item_more (element n attrs v f.items) (Start n attrs ∷ inner) f.after calls f.others
      (start_made n attrs v f.items inner f.mid f.after (run_of n [] inner others _ f) f.content)
      (e ∙ append_assoc (text_leaf text) (Opened n ∷ attribute_leaves attrs) others
      ∙ ap (λ z. text_leaf text ++ z) (ap (λ z. (Opened n ∷ attribute_leaves attrs) ++ z) f.logged ∙ start_events n attrs v f.items f.others))
      f.next

  empty_more : (n : List ℕ) (attrs : List (List ℕ × List ℕ)) (rest : List Token) (calls others : List Event)
      → calls ≡ (text_leaf text ++ Opened n ∷ (attribute_leaves attrs ++ Closed ∷ [])) ++ others
      → Fills name [] 0 rest others Next → Fills name text b (Empty n attrs ∷ rest) calls Next
  empty_more n attrs rest calls others e f =
      item_more (element n attrs [] none) (Empty n attrs ∷ rest) rest calls others (empty_made n attrs rest)
      (e ∙ append_assoc (text_leaf text) (Opened n ∷ (attribute_leaves attrs ++ Closed ∷ [])) others ∙ ap (λ z. text_leaf text ++ z) (empty_events n attrs others)) f

no_more : (typed : Bool) (s last : State) (calls : List Event) → steps s [] ≡ Some (last, calls) → Ends typed true [] calls
no_more typed s last calls e = record { parts = []; are = (refl, refl); logged = sym (ap (λ z. z.1) (some_is (s, []) (last, calls) e)) }

space_part : (typed rooted : Bool) (c : ℕ) (tokens : List Token) (calls others : List Event) → is_space c ≡ true → calls ≡ others → Ends typed rooted tokens others
    → Ends typed rooted (Character c ∷ tokens) calls
space_part typed rooted c tokens calls others s l e = record { parts = Space c ∷ e.parts; are = (tokens, s, refl, e.are); logged = l ∙ e.logged }

comment_part : (typed rooted : Bool) (v : List ℕ) (tokens : List Token) (calls others : List Event) → calls ≡ Leaf kind.Comment [] v ∷ others → Ends typed rooted tokens others
    → Ends typed rooted (Comment v ∷ tokens) calls
comment_part typed rooted v tokens calls others l e = record {
  parts = Kid (node kind.Comment [] v none) ∷ e.parts;
  are = (tokens, (refl, refl, refl), e.are);
  logged = l ∙ ap (λ z. Leaf kind.Comment [] v ∷ z) e.logged;
}

instruction_part : (typed rooted : Bool) (n v : List ℕ) (tokens : List Token) (calls others : List Event) → calls ≡ Leaf kind.Instruction n v ∷ others
    → Ends typed rooted tokens others → Ends typed rooted (Instruction n v ∷ tokens) calls
instruction_part typed rooted n v tokens calls others l e = record {
  parts = Kid (node kind.Instruction n v none) ∷ e.parts;
  are = (tokens, (refl, refl), e.are);
  logged = l ∙ ap (λ z. Leaf kind.Instruction n v ∷ z) e.logged;
}

module _ (last : State) (ended : last.stage ≡ at.Epilog) where
  -- behind the root nothing opens an element
  epilog_ends : (tokens : List Token) (calls : List Event) → steps (opened_at at.Epilog []) tokens ≡ Some (last, calls) → Ends true true tokens calls
  epilog_ends [] calls e = no_more true (opened_at at.Epilog []) last calls e
  epilog_ends (Character c ∷ ts) calls e = by_space (is_space c) refl (λ others rest. epilog_ends ts others rest) where
    by_space : (b : Bool) → is_space c ≡ b → ((others : List Event) → steps (opened_at at.Epilog []) ts ≡ Some (last, others) → Ends true true ts others)
        → Ends true true (Character c ∷ ts) calls
    by_space true t next =
        let s = split [] (steps (opened_at at.Epilog []) ts) last calls (rw t at e) in
        space_part true true c ts calls s.others t s.logged (next s.others s.rest)
    by_space false t next = let bad = rw t at e in cc
  epilog_ends (Reference c ∷ ts) calls e = cc
  epilog_ends (Section v ∷ ts) calls e = cc
  epilog_ends (Start n attrs ∷ ts) calls e = cc
  epilog_ends (Empty n attrs ∷ ts) calls e = cc
  epilog_ends (End n ∷ ts) calls e = cc
  epilog_ends (Comment v ∷ ts) calls e =
      let s = split (Leaf kind.Comment [] v ∷ []) (steps (opened_at at.Epilog []) ts) last calls e in
      comment_part true true v ts calls s.others s.logged (epilog_ends ts s.others s.rest)
  epilog_ends (Instruction n v ∷ ts) calls e =
      let s = split (Leaf kind.Instruction n v ∷ []) (steps (opened_at at.Epilog []) ts) last calls e in
      instruction_part true true n v ts calls s.others s.logged (epilog_ends ts s.others s.rest)
  epilog_ends (Declaration ∷ ts) calls e = cc
  epilog_ends (Doctype ∷ ts) calls e = cc

  -- a step that depends on a test
  by_test : (b : Bool) (s : State) (first : List Event) (ts : List Token) (calls : List Event)
      → then_on (if b then Some (s, first) else None) (λ r. steps r ts) ≡ Some (last, calls) → (b ≡ true) × Split first (steps s ts) last calls
  by_test true s first ts calls e = (refl, split first (steps s ts) last calls e)
  by_test false s first ts calls e = cc

  by_no_test : (b : Bool) (s : State) (ts : List Token) (calls : List Event)
      → then_on (if b then None else Some (s, [])) (λ r. steps r ts) ≡ Some (last, calls) → (b ≡ false) × Split [] (steps s ts) last calls
  by_no_test true s ts calls e = cc
  by_no_test false s ts calls e = (refl, split [] (steps s ts) last calls e)

  never_inside : (n : List ℕ) (names : List (List ℕ)) (text : List ℕ) (b : ℕ) (calls : List Event) → steps (inside (n ∷ names) text b) [] ≡ Some (last, calls) → ⊥
  never_inside n names text b calls e =
      let is : (inside (n ∷ names) text b).stage ≡ last.stage = ap (λ z. z.stage) (ap (λ z. z.0) (some_is (inside (n ∷ names) text b, []) (last, calls) e)) in
      cc

  -- tokens that lead from an open element to the end fill it
  pub inside_fills : (tokens : List Token) (n : List ℕ) (names : List (List ℕ)) (text : List ℕ) (b : ℕ) (calls : List Event)
      → steps (inside (n ∷ names) text b) tokens ≡ Some (last, calls) → Fills n text b tokens calls (λ after others. Rest names after others)
  inside_fills [] n names text b calls e = absurd (never_inside n names text b calls e)
  inside_fills (Character c ∷ ts) n names text b calls e =
      let s = by_no_test ((c == 62) && nat_le 2 b) (inside (n ∷ names) (text ++ encode_utf8 c) (brackets_after b c)) ts calls e in
      piece_more n text b _ (Character c) ts calls refl s.0
      (subst (λ z. Fills n (text ++ encode_utf8 c) (brackets_after b c) ts z (λ after others. Rest names after others)) (sym s.1.logged)
      (inside_fills ts n names (text ++ encode_utf8 c) (brackets_after b c) s.1.others s.1.rest))
  inside_fills (Reference c ∷ ts) n names text b calls e =
      let s = split [] (steps (inside (n ∷ names) (text ++ encode_utf8 c) 0) ts) last calls e in
      piece_more n text b _ (Reference c) ts calls refl refl
      (subst (λ z. Fills n (text ++ encode_utf8 c) 0 ts z (λ after others. Rest names after others)) (sym s.logged)
      (inside_fills ts n names (text ++ encode_utf8 c) 0 s.others s.rest))
  inside_fills (Section v ∷ ts) n names text b calls e =
      let s = split [] (steps (inside (n ∷ names) (text ++ v) 0) ts) last calls e in
      piece_more n text b _ (Section v) ts calls refl refl
      (subst (λ z. Fills n (text ++ v) 0 ts z (λ after others. Rest names after others)) (sym s.logged)
      (inside_fills ts n names (text ++ v) 0 s.others s.rest))
  inside_fills (Start m attrs ∷ ts) n names text b calls e =
      let s = split (text_leaf text ++ Opened m ∷ attribute_leaves attrs) (steps (inside (m ∷ n ∷ names) [] 0) ts) last calls e in
      start_more n text b _ m attrs ts calls s.others s.logged (inside_fills ts m (n ∷ names) [] 0 s.others s.rest)
  inside_fills (Empty m attrs ∷ ts) n names text b calls e =
      let s = split (text_leaf text ++ Opened m ∷ (attribute_leaves attrs ++ Closed ∷ [])) (steps (inside (n ∷ names) [] 0) ts) last calls e in
      empty_more n text b _ m attrs ts calls s.others s.logged (inside_fills ts n names [] 0 s.others s.rest)
  inside_fills (End m ∷ ts) n [] text b calls e =
      let s = by_test (bytes_eq n m) (opened_at at.Epilog []) (text_leaf text ++ Closed ∷ []) ts calls e in
      end_more n text b _ m ts calls s.1.others (sym ((bytes_eq-Decides n m).0 s.0)) s.1.logged (epilog_ends ts s.1.others s.1.rest)
  inside_fills (End m ∷ ts) n (k ∷ names) text b calls e =
      let s = by_test (bytes_eq n m) (inside (k ∷ names) [] 0) (text_leaf text ++ Closed ∷ []) ts calls e in
      end_more n text b _ m ts calls s.1.others (sym ((bytes_eq-Decides n m).0 s.0)) s.1.logged (inside_fills ts k names [] 0 s.1.others s.1.rest)
  inside_fills (Comment v ∷ ts) n names text b calls e =
      let s = split (text_leaf text ++ Leaf kind.Comment [] v ∷ []) (steps (inside (n ∷ names) [] 0) ts) last calls e in
      item_more n text b _ (node kind.Comment [] v none) (Comment v ∷ ts) ts calls s.others (refl, refl, refl)
      (s.logged ∙ append_assoc (text_leaf text) (Leaf kind.Comment [] v ∷ []) s.others) (inside_fills ts n names [] 0 s.others s.rest)
  inside_fills (Instruction m v ∷ ts) n names text b calls e =
      let s = split (text_leaf text ++ Leaf kind.Instruction m v ∷ []) (steps (inside (n ∷ names) [] 0) ts) last calls e in
      item_more n text b _ (node kind.Instruction m v none) (Instruction m v ∷ ts) ts calls s.others (refl, refl)
      (s.logged ∙ append_assoc (text_leaf text) (Leaf kind.Instruction m v ∷ []) s.others) (inside_fills ts n names [] 0 s.others s.rest)
  inside_fills (Declaration ∷ ts) n names text b calls e = cc
  inside_fills (Doctype ∷ ts) n names text b calls e = cc

  -- the root element
  start_root : (typed : Bool) (n : List ℕ) (attrs : List (List ℕ × List ℕ)) (ts : List Token) (calls : List Event)
      → Split (Opened n ∷ attribute_leaves attrs) (steps (inside (n ∷ []) [] 0) ts) last calls → Ends typed false (Start n attrs ∷ ts) calls
  start_root typed n attrs ts calls s =
      let f = inside_fills ts n [] [] 0 s.others s.rest in
      let v = flat_map given f.pieces in
      let t = element n attrs v f.items in
      record {
        parts = Kid t ∷ f.next.parts;
        are = (f.after, refl, start_made n attrs v f.items ts f.mid f.after (run_of n [] ts s.others _ f) f.content, f.next.are);
        logged = s.logged ∙ ap (λ z. (Opened n ∷ attribute_leaves attrs) ++ z) f.logged ∙ start_events n attrs v f.items f.others ∙ ap (λ z. events t z) f.next.logged;
      }

  empty_root : (typed : Bool) (n : List ℕ) (attrs : List (List ℕ × List ℕ)) (ts : List Token) (calls : List Event)
      → Split (Opened n ∷ (attribute_leaves attrs ++ Closed ∷ [])) (steps (opened_at at.Epilog []) ts) last calls → Ends typed false (Empty n attrs ∷ ts) calls
  empty_root typed n attrs ts calls s =
      let rest = epilog_ends ts s.others s.rest in
      let t = element n attrs [] none in
      record {
        parts = Kid t ∷ rest.parts;
        are = (ts, refl, empty_made n attrs ts, rest.are);
        logged = s.logged ∙ empty_events n attrs s.others ∙ ap (λ z. events t z) rest.logged;
      }

  -- in front of the root, behind a DOCTYPE
  typed_ends : (tokens : List Token) (calls : List Event) → steps (opened_at at.Typed []) tokens ≡ Some (last, calls) → Ends true false tokens calls
  typed_ends [] calls e =
      let is : at.Typed ≡ last.stage = ap (λ z. z.stage) (ap (λ z. z.0) (some_is (opened_at at.Typed [], []) (last, calls) e)) in
      cc
  typed_ends (Character c ∷ ts) calls e =
      let s = by_test (is_space c) (opened_at at.Typed []) [] ts calls e in
      space_part true false c ts calls s.1.others s.0 s.1.logged (typed_ends ts s.1.others s.1.rest)
  typed_ends (Reference c ∷ ts) calls e = cc
  typed_ends (Section v ∷ ts) calls e = cc
  typed_ends (Start n attrs ∷ ts) calls e = start_root true n attrs ts calls (split (Opened n ∷ attribute_leaves attrs) (steps (inside (n ∷ []) [] 0) ts) last calls e)
  typed_ends (Empty n attrs ∷ ts) calls e =
      empty_root true n attrs ts calls (split (Opened n ∷ (attribute_leaves attrs ++ Closed ∷ [])) (steps (opened_at at.Epilog []) ts) last calls e)
  typed_ends (End n ∷ ts) calls e = cc
  typed_ends (Comment v ∷ ts) calls e =
      let s = split (Leaf kind.Comment [] v ∷ []) (steps (opened_at at.Typed []) ts) last calls e in
      comment_part true false v ts calls s.others s.logged (typed_ends ts s.others s.rest)
  typed_ends (Instruction n v ∷ ts) calls e =
      let s = split (Leaf kind.Instruction n v ∷ []) (steps (opened_at at.Typed []) ts) last calls e in
      instruction_part true false n v ts calls s.others s.logged (typed_ends ts s.others s.rest)
  typed_ends (Declaration ∷ ts) calls e = cc
  typed_ends (Doctype ∷ ts) calls e = cc

  -- and where no DOCTYPE has come
  prolog_ends : (tokens : List Token) (calls : List Event) → steps (opened_at at.Prolog []) tokens ≡ Some (last, calls) → Ends false false tokens calls
  prolog_ends [] calls e =
      let is : at.Prolog ≡ last.stage = ap (λ z. z.stage) (ap (λ z. z.0) (some_is (opened_at at.Prolog [], []) (last, calls) e)) in
      cc
  prolog_ends (Character c ∷ ts) calls e =
      let s = by_test (is_space c) (opened_at at.Prolog []) [] ts calls e in
      space_part false false c ts calls s.1.others s.0 s.1.logged (prolog_ends ts s.1.others s.1.rest)
  prolog_ends (Reference c ∷ ts) calls e = cc
  prolog_ends (Section v ∷ ts) calls e = cc
  prolog_ends (Start n attrs ∷ ts) calls e = start_root false n attrs ts calls (split (Opened n ∷ attribute_leaves attrs) (steps (inside (n ∷ []) [] 0) ts) last calls e)
  prolog_ends (Empty n attrs ∷ ts) calls e =
      empty_root false n attrs ts calls (split (Opened n ∷ (attribute_leaves attrs ++ Closed ∷ [])) (steps (opened_at at.Epilog []) ts) last calls e)
  prolog_ends (End n ∷ ts) calls e = cc
  prolog_ends (Comment v ∷ ts) calls e =
      let s = split (Leaf kind.Comment [] v ∷ []) (steps (opened_at at.Prolog []) ts) last calls e in
      comment_part false false v ts calls s.others s.logged (prolog_ends ts s.others s.rest)
  prolog_ends (Instruction n v ∷ ts) calls e =
      let s = split (Leaf kind.Instruction n v ∷ []) (steps (opened_at at.Prolog []) ts) last calls e in
      instruction_part false false n v ts calls s.others s.logged (prolog_ends ts s.others s.rest)
  prolog_ends (Declaration ∷ ts) calls e = cc
  prolog_ends (Doctype ∷ ts) calls e =
      let s = split [] (steps (opened_at at.Typed []) ts) last calls e in
      let rest = typed_ends ts s.others s.rest in
      record { parts = Typed ∷ rest.parts; are = (ts, refl, refl, rest.are); logged = s.logged ∙ rest.logged }

  -- a document from where its declaration may stand
  record Declared (tokens : List Token) (calls : List Event) : Type 0 where
    declared : List Token
    declaration : MayBegin Declaration tokens declared
    ends : Ends false false declared calls

  plain : (tokens : List Token) (calls : List Event) → Ends false false tokens calls → Declared tokens calls
  plain tokens calls ends = record { declared = tokens; declaration = inr refl; ends = ends }

  marked_declared : (tokens : List Token) (calls : List Event) → steps (opened_at at.Marked []) tokens ≡ Some (last, calls) → Declared tokens calls
  marked_declared [] calls e =
      let is : at.Marked ≡ last.stage = ap (λ z. z.stage) (ap (λ z. z.0) (some_is (opened_at at.Marked [], []) (last, calls) e)) in
      cc
  marked_declared (Declaration ∷ ts) calls e =
      let s = split [] (steps (opened_at at.Prolog []) ts) last calls e in
      record { declared = ts; declaration = inl refl; ends = subst (Ends false false ts) (sym s.logged) (prolog_ends ts s.others s.rest) }
  marked_declared (Character c ∷ ts) calls e = plain (Character c ∷ ts) calls (prolog_ends (Character c ∷ ts) calls e)
  marked_declared (Reference c ∷ ts) calls e = cc
  marked_declared (Section v ∷ ts) calls e = cc
  marked_declared (Start n attrs ∷ ts) calls e = plain (Start n attrs ∷ ts) calls (prolog_ends (Start n attrs ∷ ts) calls e)
  marked_declared (Empty n attrs ∷ ts) calls e = plain (Empty n attrs ∷ ts) calls (prolog_ends (Empty n attrs ∷ ts) calls e)
  marked_declared (End n ∷ ts) calls e = cc
  marked_declared (Comment v ∷ ts) calls e = plain (Comment v ∷ ts) calls (prolog_ends (Comment v ∷ ts) calls e)
  marked_declared (Instruction n v ∷ ts) calls e = plain (Instruction n v ∷ ts) calls (prolog_ends (Instruction n v ∷ ts) calls e)
  marked_declared (Doctype ∷ ts) calls e = plain (Doctype ∷ ts) calls (prolog_ends (Doctype ∷ ts) calls e)

  -- and from the front
  record Fronted (tokens : List Token) (calls : List Event) : Type 0 where
    marked : List Token
    mark : MayBegin (Character 0xFEFF) tokens marked
    rest : Declared marked calls

  unmarked : (tokens : List Token) (calls : List Event) → Declared tokens calls → Fronted tokens calls
  unmarked tokens calls rest = record { marked = tokens; mark = inr refl; rest = rest }

  front_fronted : (tokens : List Token) (calls : List Event) → steps (opened_at at.Front []) tokens ≡ Some (last, calls) → Fronted tokens calls
  front_fronted [] calls e =
      let is : at.Front ≡ last.stage = ap (λ z. z.stage) (ap (λ z. z.0) (some_is (opened_at at.Front [], []) (last, calls) e)) in
      cc
  front_fronted (Character c ∷ ts) calls e = by_space (is_space c) refl (c == 0xFEFF) refl where
    by_space : (b : Bool) → is_space c ≡ b → (m : Bool) → (c == 0xFEFF) ≡ m → Fronted (Character c ∷ ts) calls
    by_space true t m u =
        let s = split [] (steps (opened_at at.Prolog []) ts) last calls (rw t at e) in
        unmarked (Character c ∷ ts) calls (plain (Character c ∷ ts) calls (space_part false false c ts calls s.others t s.logged (prolog_ends ts s.others s.rest)))
    by_space false t true u =
        let s = split [] (steps (opened_at at.Marked []) ts) last calls (rw (t, u) at e) in
        let is : c ≡ 0xFEFF = grind (arith, nat_tests) in
        record { marked = ts; mark = inl (ap (λ z. Character z ∷ ts) is); rest = subst (Declared ts) (sym s.logged) (marked_declared ts s.others s.rest) }
    by_space false t false u = let bad = rw (t, u) at e in cc
  front_fronted (Declaration ∷ ts) calls e = unmarked (Declaration ∷ ts) calls (marked_declared (Declaration ∷ ts) calls e)
  front_fronted (Reference c ∷ ts) calls e = cc
  front_fronted (Section v ∷ ts) calls e = cc
  front_fronted (Start n attrs ∷ ts) calls e = unmarked (Start n attrs ∷ ts) calls (marked_declared (Start n attrs ∷ ts) calls e)
  front_fronted (Empty n attrs ∷ ts) calls e = unmarked (Empty n attrs ∷ ts) calls (marked_declared (Empty n attrs ∷ ts) calls e)
  front_fronted (End n ∷ ts) calls e = cc
  front_fronted (Comment v ∷ ts) calls e = unmarked (Comment v ∷ ts) calls (marked_declared (Comment v ∷ ts) calls e)
  front_fronted (Instruction n v ∷ ts) calls e = unmarked (Instruction n v ∷ ts) calls (marked_declared (Instruction n v ∷ ts) calls e)
  front_fronted (Doctype ∷ ts) calls e = unmarked (Doctype ∷ ts) calls (marked_declared (Doctype ∷ ts) calls e)

pub leads-document : LeadsToDocument
leads-document tokens last calls e ended =
    let f = front_fronted last ended tokens calls e in
    let parts = f.rest.ends.parts in
    record {
      tree = node kind.Document [] [] (kids_of parts);
      are = record {
        marked = f.marked;
        declared = f.rest.declared;
        mark = f.mark;
        declaration = f.rest.declaration;
        parts = parts;
        are_parts = f.rest.ends.are;
        is = refl;
      };
      logged = f.rest.ends.logged;
    }
