-- The lines and the new entries of an event, piece by piece.
use Rattle.std.proofs.Common.{◌≡◌, ℕ, ◌+◌, Bool, if◌then◌else◌, List, [], ◌∷◌, ◌++◌, length, refl, sym, ap, subst, ◌∙◌, append_assoc, append-nil, arith}
use Rattle.std.proofs.lemmas.List.Elements.{filter_map-append}
use Rattle.cper_records.specs.declared.refusals.Unreadable.{Unreadable}
use Rattle.ras_facts.specs.declared.entry.Entry.{Entry}
use Rattle.ras_facts.specs.declared.details.Detail.{Detail}
use Rattle.ras_account.specs.declared.reserve.Tally.{Tally}
use Rattle.ras_account.specs.Account.{State}
use Rattle.ras_account.specs.Continued.{is_fresh_in, account_after, account_after_all}
use Rattle.ras_account.specs.Numbers.{fresh_entries_in}
use Rattle.ras_account.specs.Tallies.{IsTallyOf}
use Rattle.ras_account.specs.View.{View}
use Rattle.ras_account.proofs.ReserveLemmas.{fresh-snoc}
use Rattle.ras_texts.specs.Reports.{entry_lines}
use Rattle.ras_texts.specs.Text.{repeat_line}
use Rattle.ras_texts.specs.Unreadable.{unreadable_line}
use Rattle.ras_events.specs.declared.made.Piece.{Piece}
use Rattle.ras_events.specs.declared.made.Piece.TheVariants.{Counted, Unread}
use Rattle.ras_events.specs.Steps.Beside.{AreAlike, KeepsNews, TellsEntry}
use Rattle.ras_events.specs.Making.{entries_in, entry_in}
use Rattle.ras_events.specs.Preparing.{text_along}
use Rattle.ras_events.proofs.BesideLemmas.{IsBeside, beside}

-- The lines of pieces with one more.
text_along-snoc : (a : State) (taken : List Piece) (p : Piece)
    → text_along a (taken ++ p ∷ []) ≡ text_along a taken ++ text_along (account_after_all a (entries_in taken)) (p ∷ [])
text_along-snoc a [] p = refl
text_along-snoc a (Counted e details ∷ taken) p =
    let lines : List ℕ = if is_fresh_in a e then entry_lines details a e else repeat_line a e in
    ap (λ text. lines ++ text) (text_along-snoc (account_after a e) taken p)
    ∙ sym (append_assoc lines (text_along (account_after a e) taken) (text_along (account_after_all (account_after a e) (entries_in taken)) (p ∷ [])))
text_along-snoc a (Unread id why ∷ taken) p =
    ap (λ text. unreadable_line id why ++ text) (text_along-snoc a taken p)
    ∙ sym (append_assoc (unreadable_line id why) (text_along a taken) (text_along (account_after_all a (entries_in taken)) (p ∷ [])))

-- The processed pieces and the pieces left are all pieces, also after one more piece.
whole : (all taken left rest : List Piece) (p : Piece) → taken ++ left ≡ all → left ≡ p ∷ rest → taken ++ p ∷ rest ≡ all
whole all taken left rest p pieces is = ap (λ ps. taken ++ ps) (sym is) ∙ pieces

pub keeps_counted : (a : State) (all taken left rest : List Piece) (number fewer : ℕ) (now after : View) (tally tally' : Tally) (news more : List Entry) (text next : List ℕ) (e : Entry) (details : List Detail) (is_news : Bool)
    → AreAlike (entries_in all) → KeepsNews a all taken left number now tally news text → left ≡ Counted e details ∷ rest → fewer + 1 ≡ number → after.state ≡ now.state
    → is_news ≡ is_fresh_in (account_after_all now.state (entries_in taken)) e → IsTallyOf after tally' (entries_in taken ++ e ∷ [])
    → TellsEntry is_news after.state details e text next news more
    → KeepsNews a all (taken ++ Counted e details ∷ []) rest fewer after tally' more next
keeps_counted a all taken left rest number fewer now after tally tally' news more text next e details is_news alike so_far is one stays judged tallied told =
    let p : Piece = Counted e details in
    let es : List Entry = entries_in taken in
    let pieces : taken ++ p ∷ rest ≡ all = whole all taken left rest p so_far.pieces is in
    let entries : es ++ e ∷ entries_in rest ≡ entries_in all = sym (filter_map-append entry_in taken (p ∷ rest)) ∙ ap entries_in pieces in
    let lines : IsBeside a es e = beside a es (entries_in rest) e (subst AreAlike (sym entries) alike) in
    let fresh : is_news ≡ is_fresh_in (account_after_all a es) e = judged ∙ ap (λ s. is_fresh_in (account_after_all s es) e) so_far.state in
    let same : after.state ≡ a = stays ∙ so_far.state in
    let one_more : es ++ e ∷ [] ≡ entries_in (taken ++ p ∷ []) = sym (filter_map-append entry_in taken (p ∷ [])) in
    record {
      pieces = append_assoc taken (p ∷ []) rest ∙ pieces;
      count = omega (arith, so_far.count, one, ap length is);
      state = same;
      tally_is = subst (IsTallyOf after tally') one_more tallied;
      news_are =
          told.news
          ∙ (λ i. if fresh i then so_far.news_are i ++ e ∷ [] else so_far.news_are i)
          ∙ sym (fresh-snoc a es e)
          ∙ ap (fresh_entries_in a) one_more;
      text_is =
          told.text
          ∙ (λ i. so_far.text_is i ++ (if fresh i then entry_lines details (same i) e else repeat_line (same i) e))
          ∙ (λ i. text_along a taken ++ (if is_fresh_in (account_after_all a es) e then sym (lines.log details) i else sym lines.repeat i))
          ∙ ap (λ lines. text_along a taken ++ lines) (sym (append-nil (if is_fresh_in (account_after_all a es) e then entry_lines details (account_after_all a es) e else repeat_line (account_after_all a es) e)))
          ∙ sym (text_along-snoc a taken p);
    }

pub keeps_unread : (a : State) (all taken left rest : List Piece) (number fewer : ℕ) (now : View) (tally : Tally) (news : List Entry) (text next : List ℕ) (id : ℕ) (why : Unreadable)
    → KeepsNews a all taken left number now tally news text → left ≡ Unread id why ∷ rest → fewer + 1 ≡ number → next ≡ text ++ unreadable_line id why
    → KeepsNews a all (taken ++ Unread id why ∷ []) rest fewer now tally news next
keeps_unread a all taken left rest number fewer now tally news text next id why so_far is one put =
    let p : Piece = Unread id why in
    let same : entries_in taken ≡ entries_in (taken ++ p ∷ []) = sym (append-nil (entries_in taken)) ∙ sym (filter_map-append entry_in taken (p ∷ [])) in
    record {
      pieces = append_assoc taken (p ∷ []) rest ∙ whole all taken left rest p so_far.pieces is;
      count = omega (arith, so_far.count, one, ap length is);
      state = so_far.state;
      tally_is = subst (IsTallyOf now tally) same so_far.tally_is;
      news_are = so_far.news_are ∙ ap (fresh_entries_in a) same;
      text_is =
          put
          ∙ (λ i. so_far.text_is i ++ sym (append-nil (unreadable_line id why)) i)
          ∙ sym (text_along-snoc a taken p);
    }
