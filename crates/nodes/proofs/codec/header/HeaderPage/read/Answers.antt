use Rattle.std.proofs.Common.{get_or, refl}
use Rattle.nodes.specs.Layout.{header_image, HeaderFits}
use Rattle.nodes.specs.Readings.{header_in}
use Rattle.nodes.proofs.Spelling.{made_header, header_back, read_back}
use Rattle.nodes.proofs.Reading.{header_read}
use Rattle.nodes.proofs.codec.header.HeaderPage.read.Goals as goal

pub returns : goal.returns
returns c =
    let page = c.args.page.now in
    let code = get_or page 1 0 in
    let stands = header_read page code c.read_at.result c.read_at-2.result c.read_at-3.result c.read_at-4.result c.read_at-5.result c.read_at-6.result refl c.read_at.ensures.is_the_number_there c.read_at-2.ensures.is_the_number_there c.read_at-3.ensures.is_the_number_there c.read_at-4.ensures.is_the_number_there c.read_at-5.ensures.is_the_number_there c.read_at-6.ensures.is_the_number_there in
    record {
      is_what_stands_there = stands;
      is_the_value_of_an_image = read_back header_image HeaderFits header_in header_back page (made_header code c.read_at.result c.read_at-2.result c.read_at-3.result c.read_at-4.result c.read_at-5.result c.read_at-6.result) stands;
    }
