use Rattle.std.proofs.Common.{◌≡◌, ◌<◌, ◌+◌, ℕ, zero, suc, List, [], ◌∷◌, ◌++◌, length, get_or, map, take, arith}
use denote.Ref.{Bor}
use Rattle.std.proofs.lemmas.List.{map-append, take_more}
use Rattle.can_frame.specs.Frames.{CanFrame}
use Rattle.canbusd_options.specs.BitsOptions.{AreFramesOf, GiveFrame, GiveFrames, IsFrameOf}
use Rattle.canbusd_options.specs.Help.{IsNoMemory}
use Rattle.canbusd_options.proofs.Helping.{passed_on}
use Rattle.canbusd_options.proofs.bits_options.read_frames.Goals as goal

abbrev texts_of : List (Bor (List ℕ)) → List (List ℕ)
texts_of words = map (λ word. word.now) words

-- one frame more
frames_more : (frames : List CanFrame) (texts : List (List ℕ)) (f : CanFrame) (text : List ℕ) → AreFramesOf frames texts → IsFrameOf f text → AreFramesOf (frames ++ f ∷ []) (texts ++ text ∷ [])
frames_more [] [] f text are one = (one, tt)
frames_more [] (t ∷ texts) f text are one = absurd are
frames_more (g ∷ frames) [] f text are one = absurd are
frames_more (g ∷ frames) (t ∷ texts) f text are one = (are.0, frames_more frames texts f text are.1 one)

frames_taken : (words : List (Bor (List ℕ))) (i : ℕ) (d : Bor (List ℕ)) (frames new : List CanFrame) (f : CanFrame) → i < length words → new ≡ frames ++ f ∷ [] →
    AreFramesOf frames (texts_of (take i words)) → IsFrameOf f (get_or words i d).now → AreFramesOf new (texts_of (take (i + 1) words))
frames_taken words i d frames new f inside more are one =
    rw (more, take_more words i d inside, map-append (λ (word : Bor (List ℕ)). word.now) (take i words) (get_or words i d ∷ [])) (frames_more frames (texts_of (take i words)) f (get_or words i d).now are one)

-- each text spells a frame
frame_at : (words : List (Bor (List ℕ))) (frames : List CanFrame) (i : ℕ) (d : Bor (List ℕ)) → AreFramesOf frames (texts_of words) → i < length words → GiveFrame (get_or words i d).now
frame_at [] frames i d are inside = absurd (omega (arith, inside))
frame_at (t ∷ words) [] i d are inside = absurd are
frame_at (t ∷ words) (g ∷ frames) zero d are inside = (g, are.0)
frame_at (t ∷ words) (g ∷ frames) (suc i) d are inside = frame_at words frames i d are.1 (omega (arith, inside))

pub loop-word-preserved : goal.loop-word-preserved
loop-word-preserved c = frames_taken c.args.words.now c.loop-word.word-index _ _ _ _ (omega (arith, c.loop-word-test.true)) c.in_ok-push.ensures.items c.loop-word.invariant c.in_ok-read_frame.ensures.given

pub returns-in_err-read_frame-clause-taken : goal.returns-in_err-read_frame-clause-taken
returns-in_err-read_frame-clause-taken c =
    passed_on (λ e. GiveFrames (texts_of c.args.words.now) → IsNoMemory e) c.in_err-read_frame.field-0.0 _ c.from_residual.ensures.1
    (λ (frames, are). c.in_err-read_frame.ensures.taken (frame_at c.args.words.now frames c.loop-word.word-index _ are (omega (arith, c.loop-word-test.true))))
