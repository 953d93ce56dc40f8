use Rattle.std.proofs.Common.{◌≡◌, ◌<◌, ◌≤◌, ℕ, lit<, [], List, get_or, arith, codes, unwrap_or, Result, Ok, Err, IfErr, IsErrAnd, refl, rules, ap, sym, subst, ◌∙◌}
use Rattle.clap.specs.Words.{first_value, found_of, Row}
use Rattle.clap.specs.declared.error.Error.{Error}
use Rattle.canbusd_options.specs.Help.{IsNoMemory}
use Rattle.canbusd_options.specs.Options.{AreBusWords, AreSettings, AreTimed, GiveServeOptions, IsNumberOfText, IsNumberWithin, value_of, given_or, most_sessions, recording_text, rows_in, usual_sessions}
use Rattle.canbusd_options.specs.declared.recording.Recording.{Recording}
use Rattle.canbusd_options.specs.declared.recording.Recording.TheVariants.{AtEnd, Live, Never}
use Rattle.canbusd_options.proofs.Rules.{flag_in_rows, text_in_rows}
use Rattle.canbusd_options.proofs.serve_options.serve_options.Goals as goal

pub returns-clause-given : goal.returns-clause-given
returns-clause-given c =
    let m = c.args.serve.now in
    let address : c.unwrap_or.result.now ≡ unwrap_or (first_value (found_of m) (codes "listen")) [] = search rules in
    record {
      recording = c.in_ok-recording.ensures.given;
      together = c.in_ok-recording.ensures.together;
      settings = subst (λ text. AreSettings (rows_in m) text c.in_ok-settings_given.field-0) c.limit.ensures c.in_ok-settings_given.ensures.given;
      timed = subst (λ words. AreTimed (rows_in m) words c.in_ok-timings_given.field-0.items) c.words_given-words.ensures c.in_ok-timings_given.ensures.given;
      flush = c.in_ok-flush_given.ensures.number;
      soon = c.in_ok-flush_given.ensures.most;
      synced = c.is_on.ensures;
      buses = subst (AreBusWords c.in_ok-read_buses.field-0.items) c.words_given-words.ensures c.in_ok-read_buses.ensures;
      address = address ∙ ap (λ o. unwrap_or o []) (text_in_rows m (codes "listen"));
      sessions = subst (λ usual. IsNumberOfText c.in_ok-sessions_given.field-0 (given_or usual (rows_in m) (codes "sessions"))) c.usual_sessions-usual.ensures c.in_ok-sessions_given.ensures.number;
      some = c.in_ok-sessions_given.ensures.some;
      few = subst (λ most. c.in_ok-sessions_given.field-0 ≤ most) c.most_sessions-most.ensures c.in_ok-sessions_given.ensures.few;
      pace = c.in_ok-number_within.ensures.number;
      short = c.in_ok-number_within.ensures.most;
      write = c.in_ok-number_within-2.ensures.number;
      one_frame = c.in_ok-number_within-2.ensures.least;
      many_frames = c.in_ok-number_within-2.ensures.most;
      folder = c.get_str-2.ensures ∙ text_in_rows m (codes "out");
      until_eof = λ on. c.get_flag.ensures.value (flag_in_rows m (codes "until-eof") ∙ on);
      on_and_on = λ off. c.get_flag.ensures.other (flag_in_rows m (codes "until-eof") ∙ off);
      verbose = λ on. c.get_flag-2.ensures.value (flag_in_rows m (codes "verbose") ∙ on);
      quiet = λ off. c.get_flag-2.ensures.other (flag_in_rows m (codes "verbose") ∙ off);
    }

-- texts differ if their first bytes do
differ : (x y : List ℕ) → x ≡ y → get_or x 0 0 < get_or y 0 0 → ⊥
differ x y same low = let first : get_or x 0 0 ≡ get_or y 0 0 = ap (λ (text : List ℕ). get_or text 0 0) same in omega arith

-- two words for when records are written are equal only if they mean the same time
same_recording : (a b : Recording) → recording_text a ≡ recording_text b → a ≡ b
same_recording AtEnd AtEnd same = refl
same_recording Live Live same = refl
same_recording Never Never same = refl
same_recording AtEnd Live same = cc
same_recording AtEnd Never same = cc
same_recording Live AtEnd same = cc
same_recording Live Never same = absurd (differ (codes "live") (codes "none") same (lit< tt))
same_recording Never AtEnd same = cc
same_recording Never Live same = absurd (differ (codes "live") (codes "none") (sym same) (lit< tt))

-- the options of a server have a number of sessions within the limits for these records
sessions_within : (rows : List Row) (r : Recording) → value_of rows (codes "record") ≡ recording_text r → GiveServeOptions rows → IsNumberWithin 1 (most_sessions r) (given_or (usual_sessions r) rows (codes "sessions"))
sessions_within rows r here (o, are) =
    subst (λ (x : Recording). IsNumberWithin 1 (most_sessions x) (given_or (usual_sessions x) rows (codes "sessions"))) (same_recording o.recording r (sym are.recording ∙ here))
    (o.sessions, are.sessions, are.some, are.few)

-- a property of an error holds for the error that is passed on
passed : {T : Type 0} (P : Error → Type 0) (e : Error) (r : Result T Error) → P e → IsErrAnd r (λ x. x ≡ e) → IfErr r P
passed P e (Ok t) holds is = tt
passed P e (Err x) holds is = subst P (sym is) holds

pub returns-in_err-sessions_given-clause-taken : goal.returns-in_err-sessions_given-clause-taken
returns-in_err-sessions_given-clause-taken c =
    let rows = rows_in c.args.serve.now in
    let r = c.in_ok-recording.recording in
    let id = codes "sessions" in
    passed (λ e. GiveServeOptions rows → IsNoMemory e) c.in_err-sessions_given.field-0.0 c.from_residual-in_err-sessions_given.result
    (λ give. c.in_err-sessions_given.ensures.taken (subst (λ most. IsNumberWithin 1 most (given_or c.usual_sessions-usual.result.now rows id)) (sym c.most_sessions-most.ensures)
    (subst (λ usual. IsNumberWithin 1 (most_sessions r) (given_or usual rows id)) (sym c.usual_sessions-usual.ensures) (sessions_within rows r c.in_ok-recording.ensures.given give))))
    c.from_residual-in_err-sessions_given.ensures.1
