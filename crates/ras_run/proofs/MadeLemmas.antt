-- The pieces of a line, if there is room for them: what their new entries lead to, and what crashes leave.
use Rattle.std.proofs.Common.{◌≡◌, ◌∙◌, ℕ, Bool, true, false, ◌||◌, List, [], ◌∷◌, None, Some, IsTrue, ◌⊎◌, inl, inr, refl, sym, subst, if◌then◌else◌, arith}
use Rattle.std.proofs.lemmas.Bool.Decides.{nat_tests}
use Rattle.board_core.specs.Doing.{Moment, after_acts}
use Rattle.board_core.specs.Stop.{Left}
use Rattle.board_core.specs.Told.{Told}
use Rattle.board_core.proofs.ActLemmas.{acts_device, moment_store}
use Rattle.board_core.proofs.DoingLemmas.{moment_parts}
use Rattle.ras_account.specs.Account.{State}
use Rattle.ras_account.specs.Accounts.{IsAccount}
use Rattle.ras_account.specs.Continued.{account_after_all}
use Rattle.ras_account.specs.Numbers.{AreWithin, Numbers, StaysWithin, are_past, fresh_entries_in, numbers_with}
use Rattle.ras_account.proofs.LawLemmas.{entries-sound}
use Rattle.ras_account.proofs.NumberLemmas.{stays-within}
use Rattle.ras_facts.specs.declared.entry.Entry.{Entry}
use Rattle.journal_format.specs.Links.{link_bytes}
use Rattle.ras_journal.specs.declared.standing.Standing.{Standing}
use Rattle.ras_journal.specs.Appending.{Links}
use Rattle.ras_journal.specs.Recovered.{IsAt, Recovers}
use Rattle.ras_run.specs.Keeping.{lacks_room}
use Rattle.ras_run.proofs.KeepingLemmas.{keeping_ends, keeping_leaves}
use Rattle.ras_events.specs.declared.made.Piece.{Piece}
use Rattle.ras_events.specs.Making.{entries_in}
use Rattle.ras_events.specs.Sizes.{IsFit}
use Rattle.ras_events.proofs.HistoryLemmas.{news_account}
use Rattle.ras_events.proofs.NewsLemmas.{numbers_news, valid_news}
use Rattle.ras_exit.specs.declared.exit.Exit.TheVariants.{Full}
use Rattle.ras_exit.specs.Acts.{print_acts}
use Rattle.ras_run.specs.LineActs.{news_acts, telling_acts}
use Rattle.ras_run.specs.Moments.{Course, CourseMoment}
use Rattle.ras_run.specs.News.{has_no_room_for, lacks_room_for, standing_with_news}
use Rattle.ras_run.proofs.CourseLemmas.{begins_nothing, text_moment}
use Rattle.ras_run.proofs.NewsLemmas.{fit_news}
use Rattle.ras_run.proofs.PrintActLemmas.{can_make, news_off, news_out, told_is}
use Rattle.ras_run.proofs.StandsLemmas.{print_at}

-- ---- new entries that there is room for

within_room : (n : Numbers) → are_past n ≡ false → AreWithin n
within_room n is = record { names = grind (arith, nat_tests); entries = grind (arith, nat_tests); total = grind (arith, nat_tests) }

neither : (a b : Bool) → (a || b) ≡ false → (a ≡ false) × (b ≡ false)
neither true b is = absurd cc
neither false b is = (refl, is)

pub is_not : (b : Bool) → b ≡ false → ¬ IsTrue b
is_not b is holds = cc

pub none_if : (b : Bool) → (if b then Some Full else None) ≡ None → b ≡ false
none_if true is = absurd cc
none_if false is = refl

-- ---- an account that has room for the pieces

module _ (a : State) (s : Standing) (account : IsAccount a) (made : List Piece) (room : has_no_room_for a s (entries_in made) ≡ false) (fit : IsFit made) where
  abbrev pub news : List Entry
  news = fresh_entries_in a (entries_in made)

  abbrev pub made_standing : Standing
  made_standing = standing_with_news a s news

  abbrev pub made_account : State
  made_account = account_after_all a (entries_in made)

  pub parts : (are_past (numbers_with a (entries_in made)) ≡ false) × (lacks_room_for a s news ≡ false)
  parts = neither (are_past (numbers_with a (entries_in made))) (lacks_room_for a s news) room

  stays : StaysWithin a news
  stays = stays-within a news (subst AreWithin (sym (numbers_news a (entries_in made))) (within_room (numbers_with a (entries_in made)) parts.0))

  account_is : account_after_all a news ≡ made_account
  account_is = news_account a (entries_in made)

  pub account_made : IsAccount made_account
  account_made = subst IsAccount account_is (entries-sound a news account (valid_news a (entries_in made) news refl fit.valid) stays)

  pub links : (entry : Entry) (entries : List Entry) → news ≡ entry ∷ entries → Links a (entry ∷ entries) (link_bytes (entry ∷ entries))
  links entry entries is = record {
    can = fit_news a made (entry ∷ entries) (sym is) (omega arith) fit;
    bytes = refl;
    within = subst (StaysWithin a) is stays;
  }

  -- ---- over files that contain this account

  module _ (u : Told) (at : IsAt s a u.here) where
    kept_at : (list : List Entry) → news ≡ list → lacks_room_for a s list ≡ false → IsAt (standing_with_news a s list) (account_after_all a list) (after_acts (news_acts s a list) u).here
    kept_at [] is lacks = at
    kept_at (entry ∷ entries) is lacks =
        let link : List ℕ = link_bytes (entry ∷ entries) in
        keeping_ends s a (entry ∷ entries) link u (can_make s a link account (is_not (lacks_room s a link) lacks)) (is_not (lacks_room s a link) lacks) (links entry entries is) at

    pub news_at : IsAt made_standing made_account (after_acts (news_acts s a news) u).here
    news_at = subst (λ (b : State). IsAt made_standing b (after_acts (news_acts s a news) u).here) account_is (kept_at news refl parts.1)

    kept_moment : (left : Left) (list : List Entry) → news ≡ list → lacks_room_for a s list ≡ false → Moment (news_acts s a list) u left → (left.out ≡ u.here.out) × (Recovers a left ⊎ Recovers (account_after_all a list) left)
    kept_moment left [] is lacks never = absurd never
    kept_moment left (entry ∷ entries) is lacks moment =
        let link : List ℕ = link_bytes (entry ∷ entries) in
        let keeping = keeping_leaves s a (entry ∷ entries) link u left (can_make s a link account (is_not (lacks_room s a link) lacks)) (is_not (lacks_room s a link) lacks) (links entry entries is) at moment in
        (keeping.beside.out, keeping.recovers)

    -- ---- the text is printed then

    abbrev kept : Told
    kept = after_acts (news_acts s a news) u

    pub told_at : (text : List ℕ) → IsAt made_standing made_account (after_acts (telling_acts a s made text) u).here
    told_at text = subst (λ (v : Told). IsAt made_standing made_account v.here) (sym (told_is s a made text u)) (print_at text made_standing made_account kept news_at)

    -- What crashes leave meanwhile is one of the line's stages.
    module _ (Accepted : Type 0) (accepted : Accepted) (c : Course) (out : List ℕ) (before : c.before ≡ a) (after : c.after ≡ made_account) (store : u.here.store ≡ c.stored) (here : u.here.out ≡ out) where
      news_store : kept.here.store ≡ c.stored
      news_store = (acts_device (news_acts s a news) (news_off s a news) u).store ∙ store

      news_moment : (left : Left) → Moment (news_acts s a news) u left → CourseMoment Accepted c out left
      news_moment left moment =
          let leaves = kept_moment left news refl parts.1 moment in
          let same : left.store ≡ c.stored = moment_store (news_acts s a news) (news_off s a news) u left moment ∙ store in
          elim leaves.1 [
            | inl without ↦ inl (record { recovers = subst (λ (b : State). Recovers b left) (sym before) without; store = inr same; text = leaves.0 ∙ here })
            | inr has ↦ inr (
              accepted,
              inl (record {
                recovers = subst (λ (b : State). Recovers b left) (account_is ∙ sym after) has;
                store = same;
                text = begins_nothing c.text (record u.here { out = out }) left (leaves.0 ∙ here);
              }),
            )
          ]

      pub told_moment : (left : Left) → Moment (telling_acts a s made c.text) u left → CourseMoment Accepted c out left
      told_moment left moment = elim (moment_parts (news_acts s a news) (print_acts c.text) u left moment) [
        | inl keeping ↦ news_moment left keeping
        | inr printing ↦ text_moment Accepted accepted c out kept made_standing (subst (λ (b : State). IsAt made_standing b kept.here) (sym after) news_at) news_store (news_out s a news u ∙ here) left printing
      ]
