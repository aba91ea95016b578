use Rattle.std.proofs.Common.{codes, refl}
use Rattle.ecat_scene.proofs.TextLemmas.{other}
use Rattle.ecat_scene.proofs.reader.Reader.read_words.Goals as goal

pub returns-in_default : goal.returns-in_default
returns-in_default c =
    let word = c.args.first.now in
    let text = c.text_of.result.now in
    rw (
      other word text (codes "slave") c.text_of.ensures refl c.in_default.not-slave,
      other word text (codes "state") c.text_of.ensures refl c.in_default.not-state,
      other word text (codes "areas") c.text_of.ensures refl c.in_default.not-areas,
      other word text (codes "simple") c.text_of.ensures refl c.in_default.not-simple,
      other word text (codes "sm") c.text_of.ensures refl c.in_default.not-sm,
      other word text (codes "fmmu") c.text_of.ensures refl c.in_default.not-fmmu,
      other word text (codes "mem") c.text_of.ensures refl c.in_default.not-mem,
      other word text (codes "object") c.text_of.ensures refl c.in_default.not-object,
      other word text (codes "startup") c.text_of.ensures refl c.in_default.not-startup,
      other word text (codes "lrd") c.text_of.ensures refl c.in_default.not-lrd,
      other word text (codes "lwr") c.text_of.ensures refl c.in_default.not-lwr,
      other word text (codes "lrw") c.text_of.ensures refl c.in_default.not-lrw,
      other word text (codes "brd") c.text_of.ensures refl c.in_default.not-brd,
      other word text (codes "fprd") c.text_of.ensures refl c.in_default.not-fprd,
      other word text (codes "fpwr") c.text_of.ensures refl c.in_default.not-fpwr,
      other word text (codes "plain") c.text_of.ensures refl c.in_default.not-plain,
      other word text (codes "device") c.text_of.ensures refl c.in_default.not-device,
      other word text (codes "identity") c.text_of.ensures refl c.in_default.not-identity,
      other word text (codes "alias") c.text_of.ensures refl c.in_default.not-alias,
      other word text (codes "name") c.text_of.ensures refl c.in_default.not-name,
      other word text (codes "pdo") c.text_of.ensures refl c.in_default.not-pdo,
      other word text (codes "sii") c.text_of.ensures refl c.in_default.not-sii,
      other word text (codes "signal") c.text_of.ensures refl c.in_default.not-signal,
      other word text (codes "mirror") c.text_of.ensures refl c.in_default.not-mirror,
      other word text (codes "count") c.text_of.ensures refl c.in_default.not-count,
      other word text (codes "link") c.text_of.ensures refl c.in_default.not-link,
      other word text (codes "frame") c.text_of.ensures refl c.in_default.not-frame,
      other word text (codes "step") c.text_of.ensures refl c.in_default.not-step,
      other word text (codes "weather") c.text_of.ensures refl c.in_default.not-weather,
    ) (record { done = refl; links = refl })
