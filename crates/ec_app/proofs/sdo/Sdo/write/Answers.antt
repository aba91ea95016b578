use Rattle.std.proofs.Common.{◌≡◌, rules, sym, ap, ◌∙◌}
use Rattle.ec_app.specs.Sdo.{sdo_of, sdo_bytes}
use Rattle.ec_app.specs.declared.sdo.Sdo.{Sdo}
use Rattle.ec_app.specs.declared.sdo.Sdo.TheVariants.{Upload, UploadAnswer, Download, DownloadAnswer, Abort}
use Rattle.ec_app.proofs.SdoLemmas.{sdo_of-sdo_bytes}
use Rattle.ec_app.proofs.sdo.Sdo.write.Goals as goal

pub returns-in-Upload-clause-read_back : goal.returns-in-Upload-clause-read_back
returns-in-Upload-clause-read_back c proper =
    let sdo : Sdo = Upload c.in-Upload.index c.in-Upload.sub in
    ap sdo_of c.spelt.ensures ∙ sdo_of-sdo_bytes sdo (search rules, search rules) tt ∙ sym c.in-Upload.is

pub returns-in-UploadAnswer-clause-read_back : goal.returns-in-UploadAnswer-clause-read_back
returns-in-UploadAnswer-clause-read_back c proper =
    let sdo : Sdo = UploadAnswer c.in-UploadAnswer.index c.in-UploadAnswer.sub c.in-UploadAnswer.value in
    let spelling : c.spelt-in-UploadAnswer.result ≡ sdo_bytes sdo = cc in
    ap sdo_of spelling
    ∙ sdo_of-sdo_bytes sdo (search rules, search rules, c.bytes.ensures.fits) tt
    ∙ sym c.in-UploadAnswer.is

pub returns-in-Download-clause-read_back : goal.returns-in-Download-clause-read_back
returns-in-Download-clause-read_back c proper =
    let sdo : Sdo = Download c.in-Download.index c.in-Download.sub c.in-Download.value in
    let spelling : c.spelt-in-Download.result ≡ sdo_bytes sdo = cc in
    ap sdo_of spelling
    ∙ sdo_of-sdo_bytes sdo (search rules, search rules, c.bytes-in-Download.ensures.fits) tt
    ∙ sym c.in-Download.is

pub returns-in-DownloadAnswer-clause-read_back : goal.returns-in-DownloadAnswer-clause-read_back
returns-in-DownloadAnswer-clause-read_back c proper =
    let sdo : Sdo = DownloadAnswer c.in-DownloadAnswer.index c.in-DownloadAnswer.sub in
    ap sdo_of c.spelt-in-DownloadAnswer.ensures
    ∙ sdo_of-sdo_bytes sdo (search rules, search rules) tt
    ∙ sym c.in-DownloadAnswer.is

pub returns-in-Abort-clause-read_back : goal.returns-in-Abort-clause-read_back
returns-in-Abort-clause-read_back c proper =
    let sdo : Sdo = Abort c.in-Abort.index c.in-Abort.sub c.in-Abort.code in
    let spelling : c.spelt-in-Abort.result ≡ sdo_bytes sdo = cc in
    ap sdo_of spelling
    ∙ sdo_of-sdo_bytes sdo (search rules, search rules, search rules) tt
    ∙ sym c.in-Abort.is
